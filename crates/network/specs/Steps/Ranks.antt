-- The networks of a drawing by their order.
use Rattle.std.specs.Prelude.{◌≡◌, ◌+◌, ◌<◌, ◌≤◌, ℕ, List, Option, Some, None, ◌∷◌, ◌++◌, [], slice_set, Any, Contains, slice_get, slice_index, length}
use Rattle.drawings.specs.Picture.{Picture, IsSound}
use Rattle.drawings.specs.declared.place.Place.{Place}
use Rattle.network.specs.declared.element.Element.{Element}
use Rattle.network.specs.declared.order.ranks.Top.{Top}
use Rattle.network.specs.declared.joining.row_table.InRow.{InRow}
use Rattle.network.specs.Apart.{first_place}
use Rattle.network.specs.Steps.Listing.{AreElementsOf}
use Rattle.network.specs.Steps.Pairs.{AreTakers, AreLabels}
use Rattle.network.specs.Networks.{IsTop, MeetsAt, PrecedesByRow, AreLeftRails, lowest_row}

-- the labels of the networks that meet the rail, by the topmost row at which each does
pub record AreTops (g : Picture) (elements : List Element) (labels : List ℕ) (tops : List Top) : Type 0 where
  pub each : (k : ℕ) (t : Top) → slice_get tops k ≡ Some t
      → (i : ℕ) × (e : Element) × (slice_get elements i ≡ Some e) × (slice_index labels i ≡ t.label) × IsTop g e t.row
  pub rising : (j k : ℕ) (s t : Top) → j < k → slice_get tops j ≡ Some s → slice_get tops k ≡ Some t → s.row < t.row
  pub whole : (i : ℕ) (e : Element) (row : ℕ) → slice_get elements i ≡ Some e → MeetsAt g e row
      → (k : ℕ) × (t : Top) × (slice_get tops k ≡ Some t) × (t.label ≡ slice_index labels i)

-- in each sound drawing that has these elements, rails and takers, and whose networks have these labels,
-- these are the tops
abbrev pub AreTopsOf : List Place → List (Option InRow) → List ℕ → List Top → Type 0
AreTopsOf rails takers labels tops =
    (g : Picture) (elements : List Element) → IsSound g → AreElementsOf g elements → AreLeftRails g rails
    → AreTakers elements (g.left + 1) takers (length elements)
    → AreLabels g elements labels → AreTops g elements labels tops

-- each of these is of an element that has a label
abbrev pub HaveLabels : List (Option InRow) → ℕ → Type 0
HaveLabels takers labels = (r : ℕ) (t : InRow) → slice_get takers r ≡ Some (Some t) → t.element < labels

-- a label's entry is a top with that label, and none where no top has it
pub record AreRanksOf (tops : List Top) (table : List (Option ℕ)) : Type 0 where
  pub met : (l k : ℕ) → slice_get table l ≡ Some (Some k) → (t : Top) × (slice_get tops k ≡ Some t) × (t.label ≡ l)
  pub unmet : (l k : ℕ) (t : Top) → slice_get table l ≡ Some None → slice_get tops k ≡ Some t → t.label ≡ l → ⊥

-- each element has the entry of its label
pub record AreEntries (table : List (Option ℕ)) (labels : List ℕ) (ranks : List (Option ℕ)) : Type 0 where
  pub long : length ranks ≡ length labels
  pub entry : (i : ℕ) (r : Option ℕ) → slice_get ranks i ≡ Some r → slice_get table (slice_index labels i) ≡ Some r

-- each element's rank is the number of its network, by the topmost row of each;
-- it has none where the network doesn't meet the rail
pub record AreRanks (g : Picture) (elements : List Element) (count : ℕ) (ranks : List (Option ℕ)) : Type 0 where
  pub long : length ranks ≡ length elements
  pub within : (i m : ℕ) → slice_get ranks i ≡ Some (Some m) → m < count
  pub met : (i : ℕ) (m : ℕ) (e : Element) → slice_get elements i ≡ Some e → slice_get ranks i ≡ Some (Some m)
      → (row : ℕ) × IsTop g e row
  pub order : (i j m n : ℕ) (e f : Element) (r s : ℕ) → slice_get elements i ≡ Some e → slice_get elements j ≡ Some f
      → slice_get ranks i ≡ Some (Some m) → slice_get ranks j ≡ Some (Some n) → m < n → IsTop g e r
      → IsTop g f s → r < s
  pub same : (i j m : ℕ) (e f : Element) (r s : ℕ) → slice_get elements i ≡ Some e → slice_get elements j ≡ Some f
      → slice_get ranks i ≡ Some (Some m) → slice_get ranks j ≡ Some (Some m) → IsTop g e r → IsTop g f s → r ≡ s
  pub unmet : (i : ℕ) (e : Element) (row : ℕ) → slice_get elements i ≡ Some e → slice_get ranks i ≡ Some None
      → MeetsAt g e row → ⊥
  pub used : (m : ℕ) → m < count → (i : ℕ) × (slice_get ranks i ≡ Some (Some m))

-- e has the number i in the network m
abbrev pub IsIn : List (List Element) → ℕ → ℕ → Element → Type 0
IsIn networks m i e = (es : List Element) × (slice_get networks m ≡ Some es) × (slice_get es i ≡ Some e)

-- the first n elements stand in the networks of their ranks, in their order
pub record AreSplit (elements : List Element) (ranks : List (Option ℕ)) (count : ℕ)
    (networks : List (List Element)) (n : ℕ) : Type 0 where
  pub long : length networks ≡ count
  pub each : (m i : ℕ) (e : Element) → IsIn networks m i e
      → (k : ℕ) × (k < n) × (slice_get elements k ≡ Some e) × (slice_get ranks k ≡ Some (Some m))
  pub whole : (k m : ℕ) (e : Element) → k < n → slice_get elements k ≡ Some e
      → slice_get ranks k ≡ Some (Some m) → (i : ℕ) × IsIn networks m i e
  pub rising : (m i j : ℕ) (e f : Element) → i < j → IsIn networks m i e → IsIn networks m j f
      → (a b : ℕ) × (a < b) × (slice_get elements a ≡ Some e) × (slice_get elements b ≡ Some f)

-- all elements stand in the networks of their ranks, in their order
abbrev pub AreAllSplit : List Element → List (Option ℕ) → ℕ → List (List Element) → Type 0
AreAllSplit elements ranks count networks = AreSplit elements ranks count networks (length elements)

-- the places are those that this tells of
pub record ArePlaces (IsSuch : Place → Type 0) (places : List Place) : Type 0 where
  pub each : (k : ℕ) (p : Place) → slice_get places k ≡ Some p → IsSuch p
  pub whole : (p : Place) → IsSuch p → Contains places p

-- one of the elements begins at p
abbrev pub BeginsAt : List Element → Place → Type 0
BeginsAt elements p = Any (λ e. first_place e ≡ p) elements

-- an element with the rank None begins at p
abbrev pub IsUnmetAt : List Element → List (Option ℕ) → ℕ → Place → Type 0
IsUnmetAt elements ranks n p = (k : ℕ) × (e : Element) × (k < n) × (slice_get elements k ≡ Some e)
    × (slice_get ranks k ≡ Some None) × (first_place e ≡ p)

-- the elements have more than 200 rows
abbrev pub IsTall : List Element → Type 0
IsTall elements = (i j : ℕ) × (e f : Element) × (slice_get elements i ≡ Some e)
    × (slice_get elements j ≡ Some f) × ((first_place e).row + 200 ≤ lowest_row f)

-- an element of a network of more than 200 rows begins at p
abbrev pub IsTallAt : List (List Element) → ℕ → Place → Type 0
IsTallAt networks n p = (m : ℕ) × (es : List Element) × (i : ℕ) × (e : Element) × (m < n)
    × (slice_get networks m ≡ Some es) × IsTall es × (slice_get es i ≡ Some e) × (first_place e ≡ p)

-- the first of places, by row and then column
pub record IsFirstPlaceOf (places : List Place) (p : Place) : Type 0 where
  pub there : Contains places p
  pub first : (q : Place) → Contains places q → PrecedesByRow q p → ⊥

-- the element stands at the end of the network of its rank, if it has one
abbrev pub IsPut : {A : Type 0} → List (List A) → Option ℕ → A → List (List A) → Type 0
IsPut {A} old None e new = new ≡ old
IsPut {A} old (Some m) e new = (es : List A) × (slice_get old m ≡ Some es) × (new ≡ slice_set old m (es ++ e ∷ []))
