use Rattle.std.proofs.Common.{◌≡◌, Bool, true, false, not, if◌then◌else◌, Some, slice_get, ap}
use Rattle.gates.specs.declared.gates.Gate.TheVariants.{Off}
use Rattle.gates.proofs.gates.Gates.constant.Goals as goal

chosen : (on off : Bool) → off ≡ false → (if on then not off else off) ≡ on
chosen true off e = ap not e
chosen false off e = e

pub returns : goal.returns
returns c = λ v agrees.
    let first : slice_get c.args.self.now 0 ≡ Some Off = cc (c.self.view_is, c.self.invariant) in
    chosen c.args.on (v 0) (agrees 0 Off first)
