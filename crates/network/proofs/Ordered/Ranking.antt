-- Where networks meet the left rail, and the ranks that they get by it.
use Rattle.std.proofs.Common.{◌≡◌, ℕ, ◌+◌, ◌<◌, ◌≤◌, inl, inr, List, [], ◌∷◌, ◌++◌, Option, Some, None, Any, get_or, length-append, slice_get, slice_index, length, refl, sym, ap, ◌∙◌, arith}
use Rattle.std.proofs.lemmas.Bool.{cases_eq, cases_lt}
use Rattle.std.proofs.lemmas.Option.{slice_get_within, slice_get-get_or, get_or_from_slice_get}
use Rattle.lists.proofs.Places.{push_cases, push_here, push_old}
use Rattle.lists.proofs.Members.{at_contains}
use Rattle.drawings.specs.Picture.{Picture, IsSound, mark_at}
use Rattle.drawings.specs.declared.place.Place.{Place}
use Rattle.network.specs.declared.element.Element.{Element}
use Rattle.network.specs.declared.order.ranks.Top.{Top}
use Rattle.network.specs.Links.{place, Takes}
use Rattle.network.specs.Networks.{IsElementOf, Chained, MeetsAt, IsTop, IsLeftRail, AreLeftRails}
use Rattle.network.specs.Networks.Chained.{here, along}
use Rattle.network.specs.Steps.Listing.{AreElementsOf}
use Rattle.network.specs.Steps.Pairs.{AreLabels}
use Rattle.network.specs.Steps.Ranks.{AreTops, AreRanksOf, AreEntries, AreRanks}
use Rattle.network.proofs.Basics.{some_is, one_at}
use Rattle.network.proofs.Elements.{place_same}

pub chained_is : (g : Picture) {e f : Element} → IsElementOf g e → Chained g e f → IsElementOf g f
chained_is g is here = is
chained_is g is (along one is' linked) = is'

pub chained_then : (g : Picture) {e f h : Element} → Chained g e f → Chained g f h → Chained g e h
chained_then g one here = one
chained_then g one (along two is linked) = along (chained_then g one two) is linked

-- the tops of the networks that meet the rail in the rows of the first n rails
pub record TopsTo (g : Picture) (es : List Element) (labels : List ℕ) (rails : List Place) (tops : List Top) (n : ℕ) : Type 0 where
  pub each : (k : ℕ) (t : Top) → slice_get tops k ≡ Some t → (i : ℕ) × (e : Element) × (slice_get es i ≡ Some e) × (slice_index labels i ≡ t.label) × IsTop g e t.row
  pub before : (k j : ℕ) (t : Top) (p : Place) → slice_get tops k ≡ Some t → n ≤ j → slice_get rails j ≡ Some p → t.row < p.row
  pub rising : (j k : ℕ) (s t : Top) → j < k → slice_get tops j ≡ Some s → slice_get tops k ≡ Some t → s.row < t.row
  pub whole : (i j : ℕ) (e : Element) (p : Place) → slice_get es i ≡ Some e → j < n → slice_get rails j ≡ Some p → MeetsAt g e p.row → (k : ℕ) × (t : Top) × (slice_get tops k ≡ Some t) × (t.label ≡ slice_index labels i)

pub tops_none : (g : Picture) (es : List Element) (labels : List ℕ) (rails : List Place) → TopsTo g es labels rails [] 0
tops_none g es labels rails = record {
  each = λ k t at. absurd (cc);
  before = λ k j t p at. absurd (cc);
  rising = λ j k s t lt at. absurd (cc);
  whole = λ i j e p at lt. absurd (omega arith);
}

module _ (g : Picture) (sound : IsSound g) (es : List Element) (are : AreElementsOf g es) (labels : List ℕ) (lab : AreLabels g es labels) (rails : List Place) (ra : AreLeftRails g rails)
    (tops : List Top) (n : ℕ) (p : Place) (at : slice_get rails n ≡ Some p) (done : TopsTo g es labels rails tops n) where
  -- the place right of the rail
  next_is : (q : Place) → q.row ≡ p.row → q.column ≡ p.column + 1 → q ≡ place p.row (g.left + 1)
  next_is q r c = place_same q (place p.row (g.left + 1)) r (c ∙ ap (λ x. x + 1) (ra.each n p at).column)

  still : (k j : ℕ) (t : Top) (q : Place) → slice_get tops k ≡ Some t → n + 1 ≤ j → slice_get rails j ≡ Some q → t.row < q.row
  still k j t q at_t le at_q = done.before k j t q at_t (omega arith) at_q

  -- nothing takes state there
  pub tops_skip : (q : Place) → q.row ≡ p.row → q.column ≡ p.column + 1 → ((i : ℕ) (e : Element) → slice_get es i ≡ Some e → Takes e q → ⊥) → TopsTo g es labels rails tops (n + 1)
  tops_skip q r c nothing = record {
    each = done.each;
    before = still;
    rising = done.rising;
    whole = λ i j e p' at_e lt at_p meets. elim (cases_eq j n) [
      | inl same ↦ (let f = meets.1 in
          let is = are.whole f (chained_is g (are.drawn i e at_e) meets.2) in
          let rows : p'.row ≡ p.row = ap (λ (x : Place). x.row) (one_at rails j n p' p same at_p at) in
          absurd (nothing is.0 f is.1 (moved f (place p'.row (g.left + 1)) q (ap (λ r. place r (g.left + 1)) rows ∙ sym (next_is q r c)) meets.3)))
      | inr ne ↦ done.whole i j e p' at_e (omega arith) at_p meets
    ];
  }
    where
      moved : (f : Element) (a b : Place) → a ≡ b → Takes f a → Takes f b
      moved f a b e h = rw (← e) h

  module _ (q : Place) (r : q.row ≡ p.row) (c : q.column ≡ p.column + 1) (k : ℕ) (e : Element) (at_e : slice_get es k ≡ Some e) (takes : Takes e q)
      (only : (i : ℕ) (f : Element) → slice_get es i ≡ Some f → Takes f q → ◌≡◌ {A = Option ℕ} (Some k) (Some i)) where
    took : (f : Element) (a b : Place) → a ≡ b → Takes f a → Takes f b
    took f a b e h = rw (← e) h

    -- who meets the rail in this row has the label of the one that takes state there
    same_label : (i : ℕ) (f : Element) (row : ℕ) → row ≡ p.row → slice_get es i ≡ Some f → MeetsAt g f row → slice_index labels i ≡ slice_index labels k
    same_label i f row rows at_f meets =
        let h = meets.1 in
        let is = are.whole h (chained_is g (are.drawn i f at_f) meets.2) in
        let there = took h (place row (g.left + 1)) q (ap (λ r. place r (g.left + 1)) rows ∙ sym (next_is q r c)) meets.3 in
        let same : k ≡ is.0 = some_is k is.0 (only is.0 h is.1 there) in
        let one : h ≡ e = one_at es is.0 k h e (sym same) is.1 at_e in
        (lab.joined i k f e at_f at_e).1 (ends one meets.2)
      where
        ends : {x y z : Element} → y ≡ z → Chained g x y → Chained g x z
        ends e h = rw (← e) h

    pub tops_had : Any (λ (t : Top). t.label ≡ slice_index labels k) tops → TopsTo g es labels rails tops (n + 1)
    tops_had any = record {
      each = done.each;
      before = still;
      rising = done.rising;
      whole = λ i j f p' at_f lt at_p meets. elim (cases_eq j n) [
        | inl same ↦ (let rows : p'.row ≡ p.row = ap (λ (x : Place). x.row) (one_at rails j n p' p same at_p at) in
            (any.0, any.1, slice_get-get_or tops any.0 any.1 any.2 ∙ ap Some any.3, any.4 ∙ sym (same_label i f p'.row rows at_f meets)))
        | inr ne ↦ done.whole i j f p' at_f (omega arith) at_p meets
      ];
    }

    pub tops_more : (Any (λ (t : Top). t.label ≡ slice_index labels k) tops → ⊥) → TopsTo g es labels rails (tops ++ record { label = slice_index labels k; row = p.row } ∷ []) (n + 1)
    tops_more new = record {
      each = λ j t at_t. elim (push_cases tops top j t at_t) [
        | inl old ↦ done.each j t old
        | inr h ↦ (k, e, at_e, sym (ap (λ (x : Top). x.label) h.1), is_row t.row (sym (ap (λ (x : Top). x.row) h.1)))
      ];
      before = λ j m t p' at_t le at_p. elim (push_cases tops top j t at_t) [
        | inl old ↦ still j m t p' old le at_p
        | inr h ↦ (let row : t.row ≡ p.row = ap (λ (x : Top). x.row) h.1 in let less = ra.rising n m p p' (omega arith) at at_p in omega arith)
      ];
      rising = λ i j s t lt at_s at_t. elim (push_cases tops top j t at_t) [
        | inl old ↦ elim (push_cases tops top i s at_s) [
          | inl old' ↦ done.rising i j s t lt old' old
          | inr h ↦ absurd (let w = slice_get_within tops j t old in let l = h.0 in omega arith)
        ]
        | inr h ↦ elim (push_cases tops top i s at_s) [
          | inl old' ↦ (let row : t.row ≡ p.row = ap (λ (x : Top). x.row) h.1 in let less = done.before i n s p old' (omega arith) at in omega arith)
          | inr h' ↦ absurd (let a = h.0 in let b = h'.0 in omega arith)
        ]
      ];
      whole = λ i j f p' at_f lt at_p meets. elim (cases_eq j n) [
        | inl same ↦ (let rows : p'.row ≡ p.row = ap (λ (x : Place). x.row) (one_at rails j n p' p same at_p at) in
            (length tops, top, push_here tops top, sym (same_label i f p'.row rows at_f meets)))
        | inr ne ↦ (let w = done.whole i j f p' at_f (omega arith) at_p meets in (w.0, w.1, push_old tops top w.0 w.1 w.2, w.3))
      ];
    }
      where
        top : Top
        top = record { label = slice_index labels k; row = p.row }

        rail : IsLeftRail g (place p.row g.left)
        rail = let is = ra.each n p at in record { column = refl; mark = ap (λ c. mark_at g p.row c) (sym is.column) ∙ is.mark }

        first : (row : ℕ) → MeetsAt g e row → p.row ≤ row
        first row meets =
            let there = at_contains rails (place row g.left) (ra.whole (place row g.left) meets.0) in
            elim (cases_lt there.0 n) [
              | inl lt ↦ (let w = done.whole k there.0 e (place row g.left) at_e lt there.1 meets in
                  absurd (new (w.0, w.1, slice_get_within tops w.0 w.1 w.2, get_or_from_slice_get tops w.0 w.1 w.1 w.2, w.3)))
              | inr ge ↦ elim (cases_eq there.0 n) [
                | inl same ↦ (let rows : row ≡ p.row = ap (λ (x : Place). x.row) (one_at rails there.0 n (place row g.left) p same there.1 at) in omega arith)
                | inr ne ↦ (let less = ra.rising n there.0 p (place row g.left) (omega arith) at there.1 in omega arith)
              ]
            ]

        is_top : IsTop g e p.row
        is_top = record { meets = (rail, e, here, took e q (place p.row (g.left + 1)) (next_is q r c) takes); topmost = first }

        is_row : (row : ℕ) → p.row ≡ row → IsTop g e row
        is_row row same = rw (← same) is_top

pub tops_all : (g : Picture) (es : List Element) (labels : List ℕ) (rails : List Place) → AreLeftRails g rails → (tops : List Top) (n : ℕ) → length rails ≤ n → TopsTo g es labels rails tops n → AreTops g es labels tops
tops_all g es labels rails ra tops n all done = record {
  each = done.each;
  rising = done.rising;
  whole = λ i e row at meets. (let there = at_contains rails (place row g.left) (ra.whole (place row g.left) meets.0) in
      done.whole i there.0 e (place row g.left) at (let lt = slice_get_within rails there.0 (place row g.left) there.1 in omega arith) there.1 meets);
}

-- a table without entries has those of no tops
pub ranks_none : (table : List (Option ℕ)) → ((l : ℕ) (r : Option ℕ) → slice_get table l ≡ Some r → r ≡ None) → AreRanksOf [] table
ranks_none table none = record { met = λ l k at. absurd (let h = none l (Some k) at in cc); unmet = λ l k t at at'. absurd (cc) }

-- the first n labels have their entries
pub record EntriesTo (table : List (Option ℕ)) (labels : List ℕ) (ranks : List (Option ℕ)) (n : ℕ) : Type 0 where
  pub long : length ranks ≡ n
  pub entry : (i : ℕ) (r : Option ℕ) → slice_get ranks i ≡ Some r → slice_get table (slice_index labels i) ≡ Some r

pub entries_none : (table : List (Option ℕ)) (labels : List ℕ) → EntriesTo table labels [] 0
entries_none table labels = record { long = refl; entry = λ i r at. absurd (cc) }

pub entries_more : (table : List (Option ℕ)) (labels : List ℕ) (ranks : List (Option ℕ)) (n : ℕ) (r : Option ℕ) → slice_get table (slice_index labels n) ≡ Some r → EntriesTo table labels ranks n
    → EntriesTo table labels (ranks ++ r ∷ []) (n + 1)
entries_more table labels ranks n r at done = record {
  long = (let l = done.long in omega (arith, length-append ranks (r ∷ [])));
  entry = λ i s at'. elim (push_cases ranks r i s at') [
    | inl old ↦ done.entry i s old
    | inr h ↦ ap (λ j. slice_get table (slice_index labels j)) (h.0 ∙ done.long) ∙ at ∙ ap Some (sym h.1)
  ];
}

-- tops, the table of them and the entries are the ranks
pub ranks_are : (g : Picture) (sound : IsSound g) (es : List Element) (are : AreElementsOf g es) (labels : List ℕ) → AreLabels g es labels → (tops : List Top) → AreTops g es labels tops
    → (table : List (Option ℕ)) → AreRanksOf tops table → (ranks : List (Option ℕ)) → AreEntries table labels ranks → AreRanks g es (length tops) ranks
ranks_are g sound es are labels lab tops top table tab ranks ent = record {
  long = ent.long ∙ lab.long;
  within = λ i m at. (let w = tab.met (slice_index labels i) m (ent.entry i (Some m) at) in slice_get_within tops m w.0 w.1);
  met = λ i m e at_e at. (let w = of i m e at_e at in (w.0.row, w.2));
  order = λ i j m n e f r s at_e at_f at at' lt is_r is_s.
      (let v = of i m e at_e at in let w = of j n f at_f at' in
      let less = top.rising m n v.0 w.0 lt v.1 w.1 in
      let a = top_same e r v.0.row is_r v.2 in let b = top_same f s w.0.row is_s w.2 in omega arith);
  same = λ i j m e f r s at_e at_f at at' is_r is_s.
      (let v = of i m e at_e at in let w = of j m f at_f at' in
      top_same e r v.0.row is_r v.2 ∙ ap (λ (x : Top). x.row) (one_at tops m m v.0 w.0 refl v.1 w.1) ∙ top_same f w.0.row s w.2 is_s);
  unmet = λ i e row at_e at meets. (let w = top.whole i e row at_e meets in tab.unmet (slice_index labels i) w.0 w.1 (ent.entry i None at) w.2 w.3);
  used = used;
}
  where
    top_same : (e : Element) (r s : ℕ) → IsTop g e r → IsTop g e s → r ≡ s
    top_same e r s a b = let x = a.topmost s b.meets in let y = b.topmost r a.meets in omega arith

    -- tops of one label have one row
    carried : (e f : Element) (row : ℕ) → Chained g e f → Chained g f e → IsTop g e row → IsTop g f row
    carried e f row there back t = record {
      meets = (t.meets.0, t.meets.1, chained_then g back t.meets.2, t.meets.3);
      topmost = λ r m. t.topmost r (m.0, m.1, chained_then g there m.2, m.3);
    }

    top_of : (i : ℕ) (e : Element) (k : ℕ) (t : Top) → slice_get es i ≡ Some e → slice_get tops k ≡ Some t → t.label ≡ slice_index labels i → IsTop g e t.row
    top_of i e k t at_e at is =
        let w = top.each k t at in
        carried w.1 e t.row ((lab.joined w.0 i w.1 e w.2 at_e).0 (w.3 ∙ is)) ((lab.joined i w.0 e w.1 at_e w.2).0 (sym is ∙ sym w.3)) w.4

    of : (i m : ℕ) (e : Element) → slice_get es i ≡ Some e → slice_get ranks i ≡ Some (Some m) → (t : Top) × (slice_get tops m ≡ Some t) × IsTop g e t.row
    of i m e at_e at = let w = tab.met (slice_index labels i) m (ent.entry i (Some m) at) in (w.0, w.1, top_of i e m w.0 at_e w.1 w.2)

    used : (m : ℕ) → m < length tops → (i : ℕ) × (slice_get ranks i ≡ Some (Some m))
    used m lt =
        let t = get_or tops m (record { label = 0; row = 0 }) in
        let at : slice_get tops m ≡ Some t = slice_get-get_or tops m _ lt in
        let w = top.each m t at in
        let in' : w.0 < length ranks = (let a = slice_get_within es w.0 w.1 w.2 in let b = ent.long in let c = lab.long in omega arith) in
        found m t at w.0 w.1 w.2 w.3 w.4 (get_or ranks w.0 None) (slice_get-get_or ranks w.0 None in')
      where
        found : (m : ℕ) (t : Top) → slice_get tops m ≡ Some t → (i : ℕ) (e : Element) → slice_get es i ≡ Some e → slice_index labels i ≡ t.label → IsTop g e t.row
            → (r : Option ℕ) → slice_get ranks i ≡ Some r → (i : ℕ) × (slice_get ranks i ≡ Some (Some m))
        found m t at i e at_e is top' None h = absurd (tab.unmet (slice_index labels i) m t (ent.entry i None h) at (sym is))
        found m t at i e at_e is top' (Some n) h =
            let v = of i n e at_e h in
            let rows : v.0.row ≡ t.row = top_same e v.0.row t.row v.2 top' in
            let same : n ≡ m = elim (cases_lt n m) [
              | inl lt ↦ absurd (let l = top.rising n m v.0 t lt v.1 at in omega arith)
              | inr ge ↦ elim (cases_lt m n) [ inl lt ↦ absurd (let l = top.rising m n t v.0 lt at v.1 in omega arith) | inr le ↦ omega arith ]
            ] in
            (i, h ∙ ap (λ x. Some (Some x)) same)
