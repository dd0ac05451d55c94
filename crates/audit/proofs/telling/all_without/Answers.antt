use Rattle.std.proofs.Common.{◌≡◌, ◌∙◌, ◌==◌, ℕ, Some, length, slice_get, option_map, refl, ap, sym}
use Rattle.std.proofs.lemmas.Bool.{eq-eqb, eqb-true}
use Rattle.std.specs.Global.{Vec}
use Rattle.std.specs.Prelude.{vec_len}
use Rattle.std.proofs.lemmas.Option.{slice_get_read, slice_get-map}
use Rattle.audit.specs.declared.follower.Follower.{Follower}
use Rattle.audit.proofs.GoingOn.{lines_of}
use Rattle.audit.proofs.Tellings.{without_more, without_less}
use Rattle.audit.proofs.telling.all_without.Goals.{then-is_empty+in_ok-push, else-is_empty}
use Rattle.audit.proofs.telling.all_without.Goals as goal

pub loop-resource-preserved : goal.loop-resource-preserved
loop-resource-preserved c =
    let fs = c.args.followers.now in
    let n = c.loop-resource.resource in
    let f = c.index-followers-resource.result in
    let here : slice_get fs n ≡ Some f = slice_get_read fs (length fs) n f refl c.loop-resource-test.true c.index-followers-resource.is in
    let at : slice_get (lines_of fs) n ≡ Some f.lines = slice_get-map (λ (g : Follower). g.lines) fs n ∙ ap (option_map (λ (g : Follower). g.lines)) here in
    let test : (vec_len f.lines == 0) ≡ c.is_empty.result = ap (λ (g : Follower). vec_len g.lines == 0) c.index-followers-resource.is ∙ sym c.is_empty.ensures in
    elim c.if-is_empty.branch [
      | then-is_empty+in_ok-push w ↦
          without_more (lines_of fs) n f.lines c.loop-resource.without.items c.if-is_empty.without.items at (sym f.lines.ok.0 ∙ eqb-true f.lines.len 0 (test ∙ w.if-is_empty.true)) c.loop-resource.invariant
          (ap (λ (v : Vec ℕ). v.items) w.without-is ∙ w.in_ok-push.ensures.items)
      | else-is_empty w ↦ ap (λ (v : Vec ℕ). v.items) w.without-is ∙ without_less (lines_of fs) n f.lines c.loop-resource.without.items at (λ none. let e = sym (eq-eqb f.lines.len 0 (f.lines.ok.0 ∙ none)) ∙ test ∙ w.if-is_empty.false in cc) c.loop-resource.invariant
    ]
