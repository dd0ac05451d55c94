-- What a step leaves.
use Rattle.std.proofs.Common.{◌≡◌, List, Bool, ap, ◌∙◌}
use Rattle.scan_steps.specs.declared.slot.Instance.{Instance}
use Rattle.scan_steps.specs.Steps.Passing.{pass_of}

-- the same rows and memories
pub same_read : (rows r memories m links : List Bool) (results : List Instance) → rows ≡ r → memories ≡ m → pass_of rows memories links results ≡ pass_of r m links results
same_read rows r memories m links results one two = ap (λ x. pass_of x memories links results) one ∙ ap (λ x. pass_of r x links results) two

-- the same rows and links
pub same_linked : (rows r memories links l : List Bool) (results : List Instance) → rows ≡ r → links ≡ l → pass_of rows memories links results ≡ pass_of r memories l results
same_linked rows r memories links l results one two = ap (λ x. pass_of x memories links results) one ∙ ap (λ x. pass_of r memories x results) two
