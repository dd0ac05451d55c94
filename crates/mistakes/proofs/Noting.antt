-- Faults that are noted, and what is then left of the text.
use Rattle.std.proofs.Common.{◌≡◌, ◌≤◌, ◌+◌, ◌++◌, arith, subst, List, [], ◌∷◌, ℕ, All, Global, IfOk, IfSome, None, Ok, Err, Option, Result, Some, String, string_bytes}
use Rattle.std.proofs.lemmas.List.Elements.{All-push}
use Rattle.std.specs.declared.alloc.AllocError.{AllocError}
use Rattle.text_commands.specs.declared.text_fault.TextFault.{TextFault}
use Rattle.mistakes.specs.Further.{IsEmptiedFrom, IsFurtherIn, IsLeftOf, Refuses, less, whole}

-- a fault is noted of what is left
pub further_noted : (text rest : List ℕ) (fault : TextFault) (faults : List TextFault) → IsLeftOf text rest → Refuses rest fault
    → All (IsFurtherIn text) faults → All (IsFurtherIn text) (faults ++ fault ∷ [])
further_noted text rest fault faults left refused all =
    All-push (IsFurtherIn text) faults fault all (record { rest = rest; left = left; refused = refused })

-- what is left without one rung more
pub left_of_rest : (text read : List ℕ) (r : Result (Option (String Global)) AllocError) → IsLeftOf text read
    → IfOk r (λ left. IfSome left (λ rest. IsEmptiedFrom read (string_bytes rest)))
    → IfOk r (λ left. IfSome left (λ more. IsLeftOf text (string_bytes more)))
left_of_rest text read (Ok (Some t)) left e = less read (string_bytes t) left e
left_of_rest text read (Ok None) left e = tt
left_of_rest text read (Err x) left e = tt

-- what is left of the whole text without a rung
pub left_of_whole : (text same : List ℕ) (left : Option (String Global)) → same ≡ text
    → IfSome left (λ rest. IsEmptiedFrom same (string_bytes rest)) → IfSome left (λ rest. IsLeftOf text (string_bytes rest))
left_of_whole text same (Some t) is e = less text (string_bytes t) whole (subst (λ read. IsEmptiedFrom read (string_bytes t)) is e)
left_of_whole text same None is e = tt

-- one more at most
pub one_more : (n m k : ℕ) → n ≤ m + 1 → m ≤ k → n ≤ k + 1
one_more n m k more few = omega arith
