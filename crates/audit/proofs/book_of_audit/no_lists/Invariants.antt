-- There are as many empty lists as resources that were gone through.
use Rattle.std.proofs.Common.{◌≡◌, [], replicate}
use Rattle.audit.proofs.Risen.{lists_of}
use Rattle.audit.proofs.book_of_audit.no_lists.Given as goal

abbrev pub invariant-loop-resource : goal.invariant-loop-resource
invariant-loop-resource l = lists_of l.all.items ≡ replicate l._resource []
