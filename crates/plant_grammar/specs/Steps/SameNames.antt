-- Names that are one name, case aside: `plant` cites it too.
use Rattle.std.specs.Prelude.{ℕ, IsTrue, List}
use Rattle.std.proofs.Common.{sym, ◌∙◌}
use Rattle.std.proofs.lemmas.Slice.Eq.{bytes_eq-Decides}
use Rattle.std.specs.Str.{str_to_ascii_lowercase}
use Rattle.plant_grammar.specs.Names.{is_named}

-- one name is another either way round
pub named_back : (a b : List ℕ) → IsTrue (is_named a b) → IsTrue (is_named b a)
named_back a b same =
    let x = str_to_ascii_lowercase a in
    let y = str_to_ascii_lowercase b in
    (bytes_eq-Decides y x).1 (sym ((bytes_eq-Decides x y).0 same))

-- names that are one name with a third are one name
pub named_both : (n a b : List ℕ) → IsTrue (is_named n a) → IsTrue (is_named n b) → IsTrue (is_named a b)
named_both n a b first second =
    let x = str_to_ascii_lowercase n in
    let y = str_to_ascii_lowercase a in
    let z = str_to_ascii_lowercase b in
    (bytes_eq-Decides y z).1 (sym ((bytes_eq-Decides x y).0 first) ∙ (bytes_eq-Decides x z).0 second)
