-- What the lines of a head declare.
use Rattle.std.proofs.Common.{◌≡◌, ℕ, zero, suc, ◌-◌, ◌^◌, ◌<◌, ◌≤◌, Bool, true, false, cond, ◌&&◌, List, [], ◌∷◌, ◌++◌, All, Option, Some, None, IfSome, bytes_eq, codes, decimal, length, slice_get, refl, sym, ap, ap₂, ◌∙◌, subst, append_assoc, arith}
use Rattle.std.specs.Option.{option_map_or}
use Rattle.std.specs.Str.Parse.{IsNumeral}
use Rattle.std.proofs.lemmas.Bool.{ne_eqb}
use Rattle.std.proofs.lemmas.Fmt.{digits_is_IsNumeral}
use Rattle.std.proofs.lemmas.Str.Parse.{digit_from_value}
use Rattle.std.proofs.lemmas.Slice.Eq.{bytes_eq-Decides}
use Rattle.lists.proofs.Members.{all_at}
use Rattle.lists.proofs.Places.{element_at}
use Rattle.std_blocks.specs.declared.value.Value.{Value}
use Rattle.std_blocks.specs.declared.value.Value.TheVariants.{Bool as BoolValue, Int as IntValue, Time as TimeValue}
use Rattle.traces.specs.Laws.{IsDumpable, IsPlainWord, path_of}
use Rattle.traces.specs.Reader.{Head, Variable, declare, words_of}
use Rattle.traces.specs.Tracks.{ScopeValue, TrackValue, is_same_scope, value_at}
use Rattle.traces.specs.ValueChanges.{declared_lines, declared_lines_of, enter_lines, leave_lines, scope_before, scope_line, scope_lines, timescale_line, variable_line, width_of}
use Rattle.traces.proofs.Heads.{Declares, IsPlain, command, name_word, nothing, one_after, plain_word}
use Rattle.traces.proofs.Words.{code_word, digits_word, word_then}

-- so many variables, in scopes
abbrev pub head : List (List ℕ) → List Variable → Head
head path variables = record { unit = codes "1ms"; path = path; variables = variables }

pub timescale : Declares timescale_line (record { unit = []; path = []; variables = [] }) (head [] [])
unfolding timescale_line
timescale =
    command timescale_line (codes "$timescale" ∷ codes "1" ∷ codes "ms" ∷ []) (record { unit = []; path = []; variables = [] })
    (record { end = refl; head = refl }, (record { end = refl; head = refl }, (record { end = refl; head = refl }, tt))) (λ rest. refl)

name_plain : (w : List ℕ) → IsPlainWord w → IsPlain w
name_plain w is = plain_word w is.some is.plain

scope_enters : (path : List (List ℕ)) (variables : List Variable) (name : List ℕ) → IsPlainWord name → Declares (scope_line name) (head path variables) (head (path ++ name ∷ []) variables)
scope_enters path variables name is =
    command (scope_line name) (codes "$scope" ∷ codes "module" ∷ name ∷ []) (head path variables)
    (record { end = refl; head = refl }, (record { end = refl; head = refl }, (name_plain name is, tt)))
    (λ rest. ap (λ ws. codes "$scope" ∷ codes "module" ∷ ws) (ap words_of (append_assoc name (codes " $end\n") rest) ∙ word_then name 32 (codes "$end\n" ++ rest) (name_word name is) refl))

enters : (scope : Option ScopeValue) (variables : List Variable) → IfSome scope (λ s. IsPlainWord s.resource × IsPlainWord s.program) → Declares (enter_lines scope) (head [] variables) (head (path_of scope) variables)
enters None variables names = nothing (head [] variables)
enters (Some s) variables names =
    one_after (scope_line s.resource) (scope_line s.program) (head [] variables) (head (s.resource ∷ []) variables) (head (s.resource ∷ s.program ∷ []) variables)
    (scope_enters [] variables s.resource names.0) (scope_enters (s.resource ∷ []) variables s.program names.1)

pub leaves : (scope : Option ScopeValue) (variables : List Variable) → Declares (leave_lines scope) (head (path_of scope) variables) (head [] variables)
leaves None variables = nothing (head [] variables)
leaves (Some s) variables =
    let up : (path : List (List ℕ)) → Declares (codes "$upscope $end\n") (head path variables) (declare (head path variables) (codes "$upscope" ∷ [])) =
    λ path. command (codes "$upscope $end\n") (codes "$upscope" ∷ []) (head path variables) (record { end = refl; head = refl }, tt) (λ rest. refl) in
    one_after (codes "$upscope $end\n") (codes "$upscope $end\n") (head (s.resource ∷ s.program ∷ []) variables) (head (s.resource ∷ []) variables) (head [] variables)
    (up (s.resource ∷ s.program ∷ [])) (up (s.resource ∷ []))

same_path : (before scope : Option ScopeValue) → is_same_scope before scope ≡ true → path_of before ≡ path_of scope
same_path None None is = refl
same_path None (Some s) is = absurd (let e : false ≡ true = is in cc)
same_path (Some s) None is = absurd (let e : false ≡ true = is in cc)
same_path (Some s) (Some t) is =
    let first : bytes_eq s.resource t.resource ≡ true = left (bytes_eq s.resource t.resource) (bytes_eq s.program t.program) is in
    let second : bytes_eq s.program t.program ≡ true = right (bytes_eq s.resource t.resource) (bytes_eq s.program t.program) is in
    ap₂ (λ a b. a ∷ b ∷ []) ((bytes_eq-Decides s.resource t.resource).0 first) ((bytes_eq-Decides s.program t.program).0 second)
  where
    left : (a b : Bool) → a && b ≡ true → a ≡ true
    left true b e = refl
    left false b e = e

    right : (a b : Bool) → a && b ≡ true → b ≡ true
    right true b e = e
    right false b e = absurd (let f : false ≡ true = e in cc)

pub moves : (before scope : Option ScopeValue) (variables : List Variable) → IfSome scope (λ s. IsPlainWord s.resource × IsPlainWord s.program)
    → Declares (scope_lines before scope) (head (path_of before) variables) (head (path_of scope) variables)
moves before scope variables names = by (is_same_scope before scope) refl
  where
    by : (b : Bool) → is_same_scope before scope ≡ b → Declares (cond b [] (leave_lines before ++ enter_lines scope)) (head (path_of before) variables) (head (path_of scope) variables)
    by true is = subst (λ p. Declares [] (head (path_of before) variables) (head p variables)) (same_path before scope is) (nothing (head (path_of before) variables))
    by false is =
        one_after (leave_lines before) (enter_lines scope) (head (path_of before) variables) (head [] variables) (head (path_of scope) variables) (leaves before variables) (enters scope variables names)

-- the variable that a track is found as
abbrev pub found : ℕ → TrackValue → Variable
found j t = record { path = path_of t.scope; name = t.name; width = width_of (value_at t 0); code = 118 ∷ decimal j }

small_width : (value : Option Value) → width_of value < 10 ^ 64
small_width None = omega arith
small_width (Some (BoolValue on)) = omega arith
small_width (Some (IntValue n)) = omega arith
small_width (Some (TimeValue t)) = omega arith

decimal_plain : (ds : List ℕ) → IsNumeral 10 ds → IsPlain ds
decimal_plain [] numeral = absurd (omega (arith, numeral.0))
decimal_plain (c ∷ ds) numeral =
    let digit = digit_from_value c numeral.1.0 in plain_word (c ∷ ds) numeral.0 (λ e. omega (arith, digit, e))

-- a variable is declared
variable_declares : (j : ℕ) (t : TrackValue) (variables : List Variable) → j < 2 ^ 64 → IsPlainWord t.name
    → Declares (variable_line j t) (head (path_of t.scope) variables) (head (path_of t.scope) (variables ++ found j t ∷ []))
variable_declares j t variables small name =
    let path = path_of t.scope in
    let width = width_of (value_at t 0) in
    let numeral = digits_is_IsNumeral 10 false (omega arith) (omega arith) width (small_width (value_at t 0)) in
    let c : List (List ℕ) = codes "$var" ∷ codes "wire" ∷ decimal width ∷ (118 ∷ decimal j) ∷ t.name ∷ [] in
    let words : (rest : List ℕ) → words_of (variable_line j t ++ rest) ≡ c ++ codes "$end" ∷ words_of rest =
    λ rest.
    let end : List ℕ = codes " $end\n" ++ rest in
    let spelled : variable_line j t ++ rest ≡ codes "$var wire " ++ (decimal width ++ (32 ∷ (118 ∷ decimal j) ++ (32 ∷ t.name ++ end))) = simp append_assoc in
    ap words_of spelled ∙ ap (λ ws. codes "$var" ∷ codes "wire" ∷ ws)
    (word_then (decimal width) 32 ((118 ∷ decimal j) ++ (32 ∷ t.name ++ end)) (digits_word 10 width (omega arith) (omega arith) (small_width (value_at t 0))) refl
    ∙ ap (λ ws. decimal width ∷ ws)
    (word_then (118 ∷ decimal j) 32 (t.name ++ end) (code_word 118 j (omega arith) small) refl
    ∙ ap (λ ws. (118 ∷ decimal j) ∷ ws) (word_then t.name 32 (codes "$end\n" ++ rest) (name_word t.name name) refl))) in
    subst (λ w. Declares (variable_line j t) (head path variables) (head path (variables ++ record { path = path; name = t.name; width = w; code = 118 ∷ decimal j } ∷ [])))
    numeral.1
    (command (variable_line j t) c (head path variables)
    (record { end = refl; head = refl }, (record { end = refl; head = refl }, (decimal_plain (decimal width) numeral.0, (record { end = refl; head = refl }, (name_plain t.name name, tt))))) words)

-- the variables that the first so many tracks are found as
abbrev pub found_first : List TrackValue → ℕ → List Variable
found_first tracks zero = []
found_first tracks (suc j) = found_first tracks j ++ option_map_or (λ (t : TrackValue). found j t ∷ []) (slice_get tracks j) []

scope_behind : (tracks : List TrackValue) (j : ℕ) (t : TrackValue) → slice_get tracks j ≡ Some t → scope_before tracks (suc j) ≡ t.scope
scope_behind tracks j t at =
    let back : suc j - 1 ≡ j = omega arith in
    ap (λ b. cond b None (option_map_or (λ (x : TrackValue). x.scope) (slice_get tracks (suc j - 1)) None)) (ne_eqb (suc j) 0 (λ e. omega (arith, e)))
    ∙ ap (λ i. option_map_or (λ (x : TrackValue). x.scope) (slice_get tracks i) None) back ∙ ap (λ o. option_map_or (λ (x : TrackValue). x.scope) o None) at

-- the declarations of the first so many
pub declares : (tracks : List TrackValue) (j : ℕ) → j ≤ length tracks → length tracks < 2 ^ 64 → All (λ t. IsDumpable t) tracks
    → Declares (declared_lines tracks j) (head [] []) (head (path_of (scope_before tracks j)) (found_first tracks j))
declares tracks zero low small all = nothing (head [] [])
declares tracks (suc j) low small all =
    let here = element_at tracks j (omega arith) in
    let t = here.0 in
    let dumpable : IsDumpable t = all_at (λ (x : TrackValue). IsDumpable x) tracks j t all here.1 in
    let before = scope_before tracks j in
    let variables = found_first tracks j in
    let one : Declares (scope_lines before t.scope ++ variable_line j t) (head (path_of before) variables) (head (path_of t.scope) (variables ++ found j t ∷ [])) =
    one_after (scope_lines before t.scope) (variable_line j t) (head (path_of before) variables) (head (path_of t.scope) variables) (head (path_of t.scope) (variables ++ found j t ∷ []))
    (moves before t.scope variables dumpable.scope) (variable_declares j t variables (omega arith) dumpable.name) in
    let of_track : Option TrackValue → List ℕ = λ o. option_map_or (λ (x : TrackValue). scope_lines before x.scope ++ variable_line j x) o [] in
    let of_found : Option TrackValue → List Variable = λ o. option_map_or (λ (x : TrackValue). found j x ∷ []) o [] in
    one_after (declared_lines tracks j) (declared_lines_of tracks j) (head [] []) (head (path_of before) variables) (head (path_of (scope_before tracks (suc j))) (found_first tracks (suc j)))
    (declares tracks j (omega arith) small all)
    (subst (λ o. Declares (of_track o) (head (path_of before) variables) (head (path_of (scope_before tracks (suc j))) (variables ++ of_found o))) (sym here.1)
    (subst (λ s. Declares (of_track (Some t)) (head (path_of before) variables) (head (path_of s) (variables ++ found j t ∷ []))) (sym (scope_behind tracks j t here.1)) one))
