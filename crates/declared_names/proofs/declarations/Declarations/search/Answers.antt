use Rattle.std.proofs.Common.{◌∙◌, sym, arith}
use Rattle.declared_names.proofs.Places.{place_is, place_none}
use Rattle.declared_names.proofs.declarations.Declarations.search.Goals as goal

pub returns-then-is_named : goal.returns-then-is_named
returns-then-is_named c = sym (place_is c.args.self.now c.args.name.now c.loop-i.i (omega arith) c.loop-i.invariant (λ d. sym (c.is_named.ensures d) ∙ c.if-is_named.true))

pub returns : goal.returns
returns c = sym (place_none c.args.self.now c.args.name.now (λ k d lt. c.loop-i.invariant k d (omega arith)))
