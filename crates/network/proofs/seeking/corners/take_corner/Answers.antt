use Rattle.std.proofs.Common.{◌≡◌, ◌∙◌, ap, string_bytes}
use Rattle.std.specs.BTreeMap.{get_by_text}
use Rattle.std.specs.Str.{str_to_ascii_lowercase}
use Rattle.std.proofs.lemmas.Map.Text.{btree_map_updates_text}
use Rattle.network.specs.Links.{place}
use Rattle.network.proofs.Sought.FirstCorners.{takes_from}
use Rattle.network.proofs.seeking.corners.take_corner.Goals as goal

pub returns : goal.returns
returns c =
    let old = c.args.corners.now in
    let drawn = c.args.drawn.now in
    let name = str_to_ascii_lowercase drawn.instance in
    let same : string_bytes c.in_ok-key.key ≡ name = c.in_ok-key.ensures in
    let sets = btree_map_updates_text (string_bytes c.in_ok-key.key) old c.insert.new.self _ c.in_ok-insert.ensures.updates in
    takes_from old c.insert.new.self name (place drawn.top drawn.left) c.earlier-first.result c.known_corner-known.result
    (rw same at sets) (c.known_corner-known.ensures ∙ ap (get_by_text old) (c.as_str.ensures.value ∙ same)) (rw c.corner_of.ensures at c.earlier-first.ensures)
