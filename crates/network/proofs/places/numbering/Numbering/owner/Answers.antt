use Rattle.std.proofs.Common.{◌≡◌, ◌∙◌, ◌<◌, ℕ, Some, None, Option, length, slice_get, sym, ap, refl, arith}
use Rattle.std.proofs.lemmas.Option.{slice_get_within, slice_get_read}
use Rattle.drawings.specs.declared.place.Place.{Place}
use Rattle.network.specs.declared.places.numbering.Spot.{Spot}
use Rattle.network.proofs.Basics.{some_is}
use Rattle.network.proofs.places.numbering.Numbering.owner.Goals as goal

pub returns-in_err-number-clause-at : goal.returns-in_err-number-clause-at
returns-in_err-number-clause-at c = rw c.from_residual.ensures (λ k f. let found = (c.find.ensures k).1 f in let none = c.in_err-number.was in (let h : ◌≡◌ {A = Option ℕ} None (Some k) = sym none ∙ found in absurd (cc)))

pub index-requires : goal.index-requires
index-requires c =
    let n = c.in_ok-number.number in
    let f = (c.find.ensures n).0 c.in_ok-number.was in
    let within : n < length c.self.inside.spots.items = rw c.self.view_is (slice_get_within c.args.self.now n f.0 f.1) in
    omega (arith, c.self.inside.spots.ok.0)

pub returns-clause-at : goal.returns-clause-at
returns-clause-at c =
    let n = c.in_ok-number.number in
    let f = (c.find.ensures n).0 c.in_ok-number.was in
    let s = c.index.result.now in
    let is = rw c.self.view_is at c.index.ensures in
    let read : slice_get c.args.self.now n ≡ Some s = slice_get_read c.args.self.now (length c.args.self.now) n s refl (slice_get_within c.args.self.now n f.0 f.1) is in
    let one : f.0 ≡ s = some_is f.0 s (sym f.1 ∙ read) in
    let there : s.place ≡ c.args.place = sym (ap (λ (x : Spot). x.place) one) ∙ f.2 in
    (n, read ∙ ap Some (ap (λ (x : Place). record { place = x; element = s.element }) there))

pub returns-in_err-number-clause-only : goal.returns-in_err-number-clause-only
returns-in_err-number-clause-only c = λ k e h. (let found = (c.find.ensures k).1 (record { place = c.args.place; element = e }, h, refl) in let none = c.in_err-number.was in (let h : ◌≡◌ {A = Option ℕ} None (Some k) = sym none ∙ found in absurd (cc)))

pub returns-clause-only : goal.returns-clause-only
returns-clause-only c = λ k e h.
    (let n = c.in_ok-number.number in
    let s = c.index.result.now in
    let f = (c.find.ensures n).0 c.in_ok-number.was in
    let is = rw c.self.view_is at c.index.ensures in
    let read : slice_get c.args.self.now n ≡ Some s = slice_get_read c.args.self.now (length c.args.self.now) n s refl (slice_get_within c.args.self.now n f.0 f.1) is in
    let found = (c.find.ensures k).1 (record { place = c.args.place; element = e }, h, refl) in
    let same : n ≡ k = some_is n k (sym c.in_ok-number.was ∙ found) in
    let one : s ≡ record { place = c.args.place; element = e } = some_is s (record { place = c.args.place; element = e }) (sym read ∙ ap (slice_get c.args.self.now) same ∙ h) in
    ap (λ (x : Spot). Some x.element) one)
