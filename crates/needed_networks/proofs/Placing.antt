-- The networks that are placed, one after the other.
use Rattle.std.proofs.Common.{◌≡◌, ℕ, ◌+◌, ◌<◌, inl, inr, List, [], Bool, true, false, Option, Some, None, MatchOption, slice_get, get_or, refl, sym, ap, ◌∙◌, subst, arith}
use Rattle.std.specs.Prelude.{codes}
use Rattle.std.specs.List.{after_first}
use Rattle.std.proofs.lemmas.Bool.{cases_eq}
use Rattle.std.proofs.lemmas.Option.{same_Some}
use Rattle.words.specs.Chars.{same_word}
use Rattle.drawings.specs.declared.drawn_box.DrawnPin.{DrawnPin}
use Rattle.drawings.specs.declared.drawn_box.Operand.{Operand}
use Rattle.network.specs.declared.element.Element.{Element}
use Rattle.network.specs.declared.element.Element.TheVariants.{Wire, Join, Upright, Contact, Coil, Box}
use Rattle.network.specs.Links.{Diagram}
use Rattle.declared_names.specs.declared.declarations.Declaration.{Declaration}
use Rattle.declared_names.specs.declared.declarations.Declared.{Declared}
use Rattle.declared_names.specs.declared.declarations.Declared.TheVariants.{Input, Output, Local, Instance}
use Rattle.declared_names.specs.Names.{is_dot}
use Rattle.needed_networks.specs.declared.count_limit.CountLimit.{CountLimit}
use Rattle.needed_networks.specs.declared.count_limit.CountLimit.TheVariants.{Whole}
use Rattle.needed_networks.specs.Needs.{IsPlaced, IsReadAt}
use Rattle.needed_networks.specs.Counts.{AreLimits, HidesCounts, IsLimited, MayLimitDeclared, ReadsNoCount, ShowsNoCount}

-- the networks before a place are placed
abbrev pub PlacedBefore : List Declaration → List Bool → List Bool → List Diagram → ℕ → Type 0
PlacedBefore ds idle omitted networks k = (j : ℕ) (d : Diagram) → j < k → slice_get networks j ≡ Some d → IsPlaced ds idle d (get_or omitted j false)

pub placed_more : (ds : List Declaration) (idle omitted : List Bool) (networks : List Diagram) (k : ℕ) (here : Diagram) → PlacedBefore ds idle omitted networks k → slice_get networks k ≡ Some here
    → IsPlaced ds idle here (get_or omitted k false) → PlacedBefore ds idle omitted networks (k + 1)
placed_more ds idle omitted networks k here before at placed = λ j d lt found. elim (cases_eq j k) [
  | inl is ↦
      let same : here ≡ d = same_Some here d (sym at ∙ ap (λ i. slice_get networks i) (sym is) ∙ found) in
      subst (λ i. IsPlaced ds idle d (get_or omitted i false)) (sym is) (subst (λ (x : Diagram). IsPlaced ds idle x (get_or omitted k false)) same placed)
  | inr other ↦ before j d (omega arith) found
]

-- the networks before a place that aren't left out hide counts
abbrev pub HiddenBefore : List Declaration → List CountLimit → List Bool → List Diagram → ℕ → Type 0
HiddenBefore ds limits omitted networks k = (j : ℕ) (d : Diagram) → j < k → slice_get networks j ≡ Some d → get_or omitted j false ≡ false → HidesCounts ds limits d

pub hidden_more : (ds : List Declaration) (limits : List CountLimit) (omitted : List Bool) (networks : List Diagram) (k : ℕ) (here : Diagram) → HiddenBefore ds limits omitted networks k → slice_get networks k ≡ Some here
    → (get_or omitted k false ≡ false → HidesCounts ds limits here) → HiddenBefore ds limits omitted networks (k + 1)
hidden_more ds limits omitted networks k here before at hidden = λ j d lt found off. elim (cases_eq j k) [
  | inl is ↦
      let same : here ≡ d = same_Some here d (sym at ∙ ap (λ i. slice_get networks i) (sym is) ∙ found) in
      subst (HidesCounts ds limits) same (hidden (ap (λ i. get_or omitted i false) (sym is) ∙ off))
  | inr other ↦ before j d (omega arith) found off
]

-- where there are no limits nothing is to be hidden
no_limit : (e : Declared) → MayLimitDeclared Whole e
no_limit (Input kind) = tt
no_limit (Output kind) = tt
no_limit (Local kind) = tt
no_limit (Instance block) = tt

shows_all : (ds : List Declaration) (e : Element) → ShowsNoCount ds [] e
shows_all ds (Wire at) = tt
shows_all ds (Join at) = tt
shows_all ds (Upright at) = tt
shows_all ds (Contact c) = tt
shows_all ds (Coil c) = tt
shows_all ds (Box b) = (λ n pin lt. reads (get_or b.pins n pin), λ k at. (tt, λ limited. absurd (limited refl)))
  where
    reads : (pin : DrawnPin) → ReadsNoCount ds [] pin
    reads pin left = go pin.operand where
      go : (o : Option Operand) → MatchOption o (Unit {0}) (λ q. (k : ℕ) → IsReadAt ds q.text k → IsLimited [] k → same_word (after_first is_dot q.text) (codes "Q") ≡ true)
      go None = tt
      go (Some q) = λ k at limited. absurd (limited refl)

pub no_limits : (ds : List Declaration) (omitted : List Bool) (networks : List Diagram) → AreLimits ds [] omitted networks
no_limits ds omitted networks = record {
  declared = λ k e at. no_limit e.declared;
  hidden = λ k d at off. record {
    shows = λ n e lt. shows_all ds (get_or d.elements n e);
    once = λ n e lt m f lt' b c k is is' at' at'' limited. absurd (limited refl);
  };
}
