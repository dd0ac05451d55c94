-- What is news is of another resource.
use Rattle.std.proofs.Common.{◌≡◌, ◌∙◌, ◌&&◌, ℕ, Bool, true, false, not, eqb, ltb, ap, sym, refl, length}
use Rattle.std.specs.Prelude.{slice_index}
use Rattle.std.proofs.lemmas.Bool.{and_parts, false≢true}
use Rattle.exchange_core.specs.MessageCoreValue.{MessageCoreValue, is_news}
use Rattle.exchange_core.proofs.Keeping.{core-heard}
use Rattle.exchange_core.proofs.message_core.MessageCore.hear.Goals as goal

other : (b : Bool) → not b ≡ true → b ≡ false
other false e = refl
other true e = absurd (false≢true e)

news-other : (core : MessageCoreValue) (of incarnation : ℕ) → is_news core of incarnation ≡ true → eqb of core.resource ≡ false
news-other core of incarnation e = other (eqb of core.resource) (and_parts (not (eqb of core.resource)) (ltb of (length core.plant.resources) && ltb (slice_index core.heard of) incarnation) e).0

pub invariant_of-self : goal.invariant_of-self
invariant_of-self c =
    core-heard _ c.args.of c.args.incarnation c.self.invariant
    (ap (λ (w : MessageCoreValue). eqb c.args.of w.resource) c.self.view_is ∙ news-other c.args.self.now c.args.of c.args.incarnation (sym c.would_hear.ensures ∙ c.if-not-would_hear.false))
