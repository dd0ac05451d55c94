-- Coils by the elements behind them.
use Rattle.std.proofs.Common.{◌≡◌, ℕ, Bool, true, false, List, [], ◌∷◌, ◌++◌, String, Global, refl, sym, ap, ◌∙◌}
use Rattle.std.specs.BTreeSet.{BTreeSet}
use Rattle.std.specs.List.{list_any}
use Rattle.std.proofs.lemmas.List.{reverse-append}
use Rattle.std.specs.Prelude.{◌||◌, ◌&&◌, if◌then◌else◌, reverse}
use Rattle.network.specs.declared.element.Element.{Element}
use Rattle.network.specs.declared.element.Element.TheVariants.{Wire, Join, Upright, Contact, Coil, Box}
use Rattle.network.specs.Links.{place}
use Rattle.warnings.specs.declared.warning.Warning.{Warning}
use Rattle.warnings.specs.declared.warning.WarningKind.TheVariants.{DoubleCoil}
use Rattle.warnings.specs.Found.{small, stores_always, stores_into, double_at, doubles, warning_at}
use Rattle.warnings.specs.Steps.Stored.{HasStored, TakesStored, double_with}

-- a set of what later coils store into tells what they tell
pub double_is : (first_line : ℕ) (e : Element) (later : List Element) (set : BTreeSet (String Global))
    → HasStored later set → double_with first_line e set ≡ double_at first_line e later
double_is first_line (Wire at) later set are = refl
double_is first_line (Join at) later set are = refl
double_is first_line (Upright at) later set are = refl
double_is first_line (Contact c) later set are = refl
double_is first_line (Coil c) later set are =
    ap (λ b. if stores_always c.kind && b then warning_at DoubleCoil first_line (place c.row c.column) ∷ [] else []) (are (small c.name))
double_is first_line (Box b) later set are = refl

-- one element more
pub stored_more : (e : Element) (later : List Element) (old new : BTreeSet (String Global))
    → HasStored later old → TakesStored old e new → HasStored (e ∷ later) new
stored_more e later old new are takes q = takes q ∙ ap (λ b. stores_into q e || b) (are q)

-- a warning or none, turned round
pub double_flips : (first_line : ℕ) (e : Element) (later : List Element) → reverse (double_at first_line e later) ≡ double_at first_line e later
double_flips first_line (Wire at) later = refl
double_flips first_line (Join at) later = refl
double_flips first_line (Upright at) later = refl
double_flips first_line (Contact c) later = refl
double_flips first_line (Coil c) later = by (stores_always c.kind && list_any (stores_into (small c.name)) later)
  where
    by : (b : Bool) → reverse (if b then warning_at DoubleCoil first_line (place c.row c.column) ∷ [] else []) ≡ (if b then warning_at DoubleCoil first_line (place c.row c.column) ∷ [] else [])
    by true = refl
    by false = refl
double_flips first_line (Box b) later = refl

-- what is told so far, from the last element back, with one element more
pub told_more : (first_line : ℕ) (e : Element) (later : List Element) (set : BTreeSet (String Global)) (old new : List Warning)
    → HasStored later set → old ≡ reverse (doubles first_line later) → new ≡ old ++ double_with first_line e set
    → new ≡ reverse (doubles first_line (e ∷ later))
told_more first_line e later set old new are was adds =
    adds ∙ ap (λ (ws : List Warning). ws ++ double_with first_line e set) was
    ∙ ap (λ (ws : List Warning). reverse (doubles first_line later) ++ ws) (double_is first_line e later set are ∙ sym (double_flips first_line e later))
    ∙ sym (reverse-append (double_at first_line e later) (doubles first_line later))
