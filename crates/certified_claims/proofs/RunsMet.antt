-- What the verdict on the first variable that is given tells of runs.
use Rattle.std.proofs.Common.{◌≡◌, ◌==◌, ℕ, List, [], ◌∷◌, Bool, false, None, Some, length, slice_get, refl, ap, sym, subst}
use Rattle.std.proofs.lemmas.Option.{none-some}
use Rattle.lists.proofs.Members.{all_at}
use Rattle.power_flow.specs.Meaning.{Moment}
use Rattle.verifying.specs.Needed.{IsSearched}
use Rattle.verifying.specs.Runs.{HasRun, IsOn, Leads, Meets, SetupValue, first}
use Rattle.verifying.specs.Verdicts.{Never}
use Rattle.certified_claims.specs.Certified.{Sets}

-- what is given can be claimed, too
pub searched_given : (u v : SetupValue) (claims : List ℕ) (idle : List Bool) → IsSearched u claims idle v → IsSearched u u.given idle v
searched_given u v claims idle i = record {
  are_idle = record { omitted = i.are_idle.omitted; closed = i.are_idle.closed; claims = i.are_idle.given; given = i.are_idle.given };
  declarations = i.declarations;
  networks = i.networks;
  dt = i.dt;
  free = i.free;
  held = i.held;
  given = i.given;
  restarts = i.restarts;
  limits = i.limits;
}

-- the last scan of a run leaves TRUE what is given
meets_last : (u : SetupValue) (row : List Bool) (rows : List (List Bool)) (s t : Moment) → Leads u s (row ∷ rows) t → Meets u t
meets_last u row [] s t (between, step, same) = subst (Meets u) same step.meets
meets_last u row (next ∷ rows) s t (between, step, leads) = meets_last u next rows between t leads

-- where it is never TRUE, there is no run
pub unmet : (u : SetupValue) (place : ℕ) → slice_get u.given 0 ≡ Some place → Never u place → HasRun u → ⊥
unmet u place at never met =
    never (met.row ∷ met.rows) met.last met.run (all_at (IsOn met.last) u.given 0 place (meets_last u met.row met.rows (first u) met.last met.run) at)

-- where it is after rows, of which there are some, there is one
pub met : (u : SetupValue) (place : ℕ) (rows : List (List Bool)) (count : ℕ) → Sets u place rows → count ≡ length rows → (count == 0) ≡ false → HasRun u
met u place [] count sets many some = absurd (let none = ap (λ n. n == 0) many in cc)
met u place (row ∷ rows) count sets many some = record { row = row; rows = rows; last = sets.last; run = sets.run }

-- where there is no first one, there is none
pub no_first : (xs : List ℕ) → slice_get xs 0 ≡ None → xs ≡ []
no_first [] is = refl
no_first (x ∷ xs) is = absurd (none-some x (sym is))
