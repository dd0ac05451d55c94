-- Names in small letters as keys of a map.
use Rattle.std.proofs.Common.{◌≡◌, ℕ, suc, ◌+◌, Bool, false, cond, not, List, [], ◌∷◌, ◌++◌, length, None, is_some, position, refl, sym, ap, ◌∙◌}
use Rattle.std.specs.List.{prefix_len}
use Rattle.std.specs.Map.{keys_of, values_of, lookup}
use Rattle.std.specs.Str.{bytes_eq, str_to_ascii_lowercase, str_eq_ignore_ascii_case}
use Rattle.std.specs.declared.vec.Vec.{Vec}
use Rattle.std.proofs.lemmas.Bool.Decides.{same_from_decides, Decides-like}
use Rattle.std.proofs.lemmas.Slice.Eq.{bytes_eq-Decides}
use Rattle.lists.proofs.Places.{none_from_is_some}
use Rattle.indexmap.specs.IndexMap.{insert_entry}
use Rattle.indexmap.proofs.MapLemmas.{absent_from_lookup, some_index, insert_entry-absent}
use Rattle.declared_names.specs.declared.declarations.Declaration.{Declaration}
use Rattle.declared_names.specs.Steps.Folded.{AreFolded}
use Rattle.declared_names.specs.Names.{place_of}

pub bytes_eq-sym : (a b : List ℕ) → bytes_eq a b ≡ bytes_eq b a
bytes_eq-sym a b = same_from_decides (bytes_eq a b) (bytes_eq b a) (bytes_eq-Decides a b) (Decides-like (bytes_eq b a) sym sym (bytes_eq-Decides b a))

-- the test of a key
abbrev pub is_key : {A : Type 0} → List ℕ → Vec ℕ A → Bool
is_key folded key = bytes_eq folded key.items

module _ {A : Type 0} (name : List ℕ) where
  test_same : (key : Vec ℕ A) (e : Declaration) → key.items ≡ str_to_ascii_lowercase e.name
      → is_key (str_to_ascii_lowercase name) key ≡ str_eq_ignore_ascii_case e.name name
  test_same key e same =
      ap (λ (l : List ℕ). bytes_eq (str_to_ascii_lowercase name) l) same ∙ bytes_eq-sym (str_to_ascii_lowercase name) (str_to_ascii_lowercase e.name)

  prefix_same : (es : List (Vec ℕ A × Declaration)) → AreFolded es
      → prefix_len (λ (k : Vec ℕ A). not (is_key (str_to_ascii_lowercase name) k)) (keys_of es) ≡ prefix_len (λ (e : Declaration). not (str_eq_ignore_ascii_case e.name name)) (values_of es)
  prefix_same [] h = refl
  prefix_same (e ∷ es) h =
      let here = test_same e.0 e.1 h.0 in
      let rest = prefix_same es h.1 in
      ap (λ b. cond (not b) (1 + prefix_len (λ (k : Vec ℕ A). not (is_key (str_to_ascii_lowercase name) k)) (keys_of es)) 0) here
      ∙ ap (λ n. cond (not (str_eq_ignore_ascii_case e.1.name name)) (1 + n) 0) rest

  length_same : (es : List (Vec ℕ A × Declaration)) → length (keys_of es) ≡ length (values_of es)
  length_same [] = refl
  length_same (e ∷ es) = ap suc (length_same es)

  -- the table finds a name where the list has it
  pub position_folded : (es : List (Vec ℕ A × Declaration)) → AreFolded es
      → position (is_key (str_to_ascii_lowercase name)) (keys_of es) ≡ place_of (values_of es) name
  unfolding place_of
  position_folded es h = rw (prefix_same es h, length_same es)

-- keys are compared by their letters
abbrev pub same_key : {A : Type 0} → Vec ℕ A → Vec ℕ A → Bool
same_key x y = bytes_eq x.items y.items

module _ {A : Type 0} (key : Vec ℕ A) (d : Declaration) (same : key.items ≡ str_to_ascii_lowercase d.name) where
  -- a name that the list does not have goes last in the table
  pub insert_new : (es : List (Vec ℕ A × Declaration)) → AreFolded es → place_of (values_of es) d.name ≡ None → insert_entry same_key es key d ≡ es ++ (key, d) ∷ []
  insert_new es folded none =
      let place : position (same_key key) (keys_of es) ≡ None =
      ap (λ (l : List ℕ). position (is_key l) (keys_of es)) same ∙ position_folded d.name es folded ∙ none in
      let found : is_some (lookup (same_key key) es) ≡ false = sym (some_index (same_key key) es) ∙ ap is_some place in
      insert_entry-absent same_key key d es (absent_from_lookup (same_key key) es (none_from_is_some (lookup (same_key key) es) found))

  pub AreFolded-push : (es : List (Vec ℕ A × Declaration)) → AreFolded es → AreFolded (es ++ (key, d) ∷ [])
  AreFolded-push [] h = (same, tt)
  AreFolded-push (e ∷ es) h = (h.0, AreFolded-push es h.1)

  pub values_of-push : (es : List (Vec ℕ A × Declaration)) → values_of (es ++ (key, d) ∷ []) ≡ values_of es ++ d ∷ []
  values_of-push [] = refl
  values_of-push (e ∷ es) = ap (λ (l : List Declaration). e.1 ∷ l) (values_of-push es)
