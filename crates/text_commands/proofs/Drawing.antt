-- A drawing is shown element by element, network by network.
use Rattle.std.proofs.Common.{◌≡◌, ℕ, zero, suc, ◌+◌, ◌<◌, ◌≤◌, ◌++◌, List, [], ◌∷◌, Bool, false, if◌then◌else◌, Some, length, take, drop, get_or, min, refl, sym, ap, ap₂, ◌∙◌, arith}
use Rattle.std.proofs.lemmas.List.{append-nil, drop-drop, drop_min, length-append, length-take-le, take_all, take_more}
use Rattle.std.proofs.lemmas.List.Concat.{flat_map-append}
use Rattle.std.proofs.lemmas.Option.{get_or_from_slice_get, slice_get_within}
use Rattle.std.specs.Prelude.{slice_get, unwrap_or}
use Rattle.std.specs.List.{flat_map}
use Rattle.network.specs.declared.element.Element.{Element}
use Rattle.network.specs.Links.{Diagram}
use Rattle.text_commands.specs.declared.live_drawing.Sign.{Sign}
use Rattle.text_commands.specs.LiveDrawing.{drawn_lines, live_lines, with_element, with_power}

nothing_shown : (elements : List Element) (lines : List (List Sign)) → lines ≡ with_power elements [] lines
nothing_shown [] lines = refl
nothing_shown (e ∷ elements) lines = refl

-- the elements of two lists, one list after the other
power-append : (es fs : List Element) (shown : List Bool) (lines : List (List Sign)) → with_power (es ++ fs) shown lines ≡ with_power fs (drop (length es) shown) (with_power es shown lines)
power-append [] fs shown lines = refl
power-append (e ∷ es) fs [] lines = nothing_shown fs lines
power-append (e ∷ es) fs (on ∷ shown) lines = power-append es fs shown (if on then with_element e lines else lines)

-- one element
power_one : (e : Element) (k : ℕ) (shown : List Bool) (lines : List (List Sign)) → with_power (e ∷ []) (drop k shown) lines ≡ (if unwrap_or (slice_get shown k) false then with_element e lines else lines)
power_one e zero [] lines = refl
power_one e (suc k) [] lines = refl
power_one e zero (on ∷ shown) lines = refl
power_one e (suc k) (on ∷ shown) lines = power_one e k shown lines

-- one element more
pub power_more : (es : List Element) (k : ℕ) (d : Element) (shown : List Bool) (lines : List (List Sign)) → k < length es
    → with_power (take (k + 1) es) shown lines ≡ (if unwrap_or (slice_get shown k) false then with_element (get_or es k d) (with_power (take k es) shown lines) else with_power (take k es) shown lines)
power_more es k d shown lines lt =
    let e = get_or es k d in
    let so_far = with_power (take k es) shown lines in
    ap (λ l. with_power l shown lines) (take_more es k d lt) ∙ power-append (take k es) (e ∷ []) shown lines
    ∙ ap (λ n. with_power (e ∷ []) (drop n shown) so_far) (length-take-le k es (omega arith)) ∙ power_one e k shown so_far

abbrev elements_of : List Diagram → List Element
elements_of networks = flat_map (λ (d : Diagram). d.elements) networks

elements_more : (networks : List Diagram) (n : ℕ) (d : Diagram) → slice_get networks n ≡ Some d → elements_of (take (n + 1) networks) ≡ elements_of (take n networks) ++ d.elements
elements_more networks n d at =
    ap elements_of (take_more networks n d (slice_get_within networks n d at)) ∙ flat_map-append (λ (d : Diagram). d.elements) (take n networks) (get_or networks n d ∷ [])
    ∙ ap (λ l. elements_of (take n networks) ++ l) (append-nil (get_or networks n d).elements ∙ ap (λ (x : Diagram). x.elements) (get_or_from_slice_get networks n d d at))

-- one network more
pub lines_more : (drawing : List ℕ) (networks : List Diagram) (n : ℕ) (d : Diagram) (shown rest : List Bool) (elements : List Element) (lines lines' : List (List Sign)) → slice_get networks n ≡ Some d
    → elements ≡ d.elements → lines ≡ live_lines drawing (take n networks) shown → rest ≡ drop (length (elements_of (take n networks))) shown → lines' ≡ with_power elements rest lines
    → lines' ≡ live_lines drawing (take (n + 1) networks) shown
lines_more drawing networks n d shown rest elements lines lines' at is so_far left more =
    more ∙ ap (λ es. with_power es rest lines) is ∙ ap₂ (λ r ls. with_power d.elements r ls) left so_far ∙ sym (power-append (elements_of (take n networks)) d.elements shown (drawn_lines drawing))
    ∙ ap (λ es. with_power es shown (drawn_lines drawing)) (sym (elements_more networks n d at))

pub rest_more : (networks : List Diagram) (n : ℕ) (d : Diagram) (shown rest rest' : List Bool) (elements : List Element) → slice_get networks n ≡ Some d → elements ≡ d.elements
    → rest ≡ drop (length (elements_of (take n networks))) shown → rest' ≡ drop (min (length elements) (length rest)) rest
    → rest' ≡ drop (length (elements_of (take (n + 1) networks))) shown
rest_more networks n d shown rest rest' elements at is left more =
    let before = length (elements_of (take n networks)) in
    more ∙ drop_min (length elements) rest ∙ ap₂ (λ (es : List Element) r. drop (length es) r) is left ∙ drop-drop (length d.elements) before shown
    ∙ ap (λ m. drop m shown) (sym (length-append (elements_of (take n networks)) d.elements)) ∙ ap (λ (es : List Element). drop (length es) shown) (sym (elements_more networks n d at))

pub lines_all : (drawing : List ℕ) (networks : List Diagram) (n : ℕ) (shown : List Bool) (lines : List (List Sign)) → length networks ≤ n → lines ≡ live_lines drawing (take n networks) shown
    → lines ≡ live_lines drawing networks shown
lines_all drawing networks n shown lines past is = is ∙ ap (λ l. live_lines drawing l shown) (take_all n networks past)

pub put_more : (es : List Element) (k : ℕ) (x : Element) (shown : List Bool) (lines now now' : List (List Sign)) (on : Bool) → k < length es → x ≡ get_or es k x → now ≡ with_power (take k es) shown lines
    → on ≡ unwrap_or (slice_get shown k) false → now' ≡ (if on then with_element x now else now) → now' ≡ with_power (take (k + 1) es) shown lines
put_more es k x shown lines now now' on lt is before shows put =
    put ∙ ap₂ (λ (b : Bool) ls. if b then with_element x ls else ls) shows before
    ∙ ap (λ (e : Element). if unwrap_or (slice_get shown k) false then with_element e (with_power (take k es) shown lines) else with_power (take k es) shown lines) is
    ∙ sym (power_more es k x shown lines lt)
