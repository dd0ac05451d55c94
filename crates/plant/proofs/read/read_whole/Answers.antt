use Rattle.std.proofs.Common.{ℕ, ◌≡◌, ◌≢◌, ◌<◌, ◌^◌, inl, inr, List, [], ◌∷◌, ◌++◌, All, length, map, ap, refl, sym, subst, ◌∙◌, arith}
use Rattle.std.proofs.lemmas.List.{append-nil, append_cancel_right, map-append, length-map}
use Rattle.words.specs.Lines.{without_last}
use Rattle.plant_text.specs.declared.token.Token.{Token}
use Rattle.plant_text.specs.declared.token.Token.TheVariants as token
use Rattle.plant_text.specs.Spelling.{Spells}
use Rattle.plant_text.specs.Lines.{WordValue, body_lines}
use Rattle.plant_grammar.specs.Grammar.{Tree, words_of}
use Rattle.plant_grammar.specs.Steps.NamesRead as names
use Rattle.plant_grammar.specs.Lawful.{all_uses, IsTreeLawful}
use Rattle.plant_grammar.specs.declared.grammar_fault.GrammarFault.{GrammarFault}
use Rattle.plant_grammar.specs.Steps.Lines.{ReaderValue, HasLinesOf}
use Rattle.plant_grammar.specs.Steps.Expected.{MeetsMisplaced}
use Rattle.plant_grammar.specs.Steps.Reading.{tree_written}
use Rattle.lists.proofs.Results.{kept_fault}
use Rattle.plant.specs.Faults.{IsPlantFault, IsOfBody, IsOfDeclaredName, kind_of_word, fault_of_word}
use Rattle.plant.specs.Ladders.{IsLadderOf}
use Rattle.plant.specs.ProgramTypes.{TypeValue}
use Rattle.plant.specs.Faultless.{AreBindsFed, IsTreeFaultless}
use Rattle.plant.specs.SourceFaults.{HasFirstSourceFault}
use Rattle.plant.specs.declared.plant_fault.PlantFaultKind.TheVariants.{Memory, Syntax}
use Rattle.plant_grammar.specs.Steps.Reading.{programs_of}
use Rattle.plant.specs.PlantText.{IsNoPlant, HasFaultlessWords, AreBodiesDrawn, IsSyntaxIn, IsBodyFaultIn, IsNameFaultIn}
use Rattle.plant.proofs.SameTrees.{ladders_same, sources_same}
use Rattle.plant.specs.StandsFor.{IsPlantOf}
use Rattle.plant.specs.Steps.Reading.{ReadingValue, tree_of}
use Rattle.plant.proofs.BodyCounts.{begun_by_programs}
use Rattle.plant.proofs.DrawnTrees.{drawn_tree, drawn_have_ladders, bodies_drawn}
use Rattle.plant.proofs.WordFaults.{plant_of_word, no_body, of_name, no_name, memory_no_body, memory_no_name, body_no_name, syntax_no_memory, body_no_syntax, of_syntax, source_no_syntax}
use Rattle.plant.proofs.KnownWords.{words_known}
use Rattle.plant.proofs.MisplacedWords.{front_drawn, no_tree, syntax_first}
use Rattle.plant_grammar.specs.SourceLines.{AreSourcesOn}
use Rattle.plant.proofs.CutSources.{sources_cut}
use Rattle.plant.proofs.RefusedKnown.{begun_by_front, begun_by_refused, own_lines}
use Rattle.plant.proofs.read.read_whole.Goals as goal

pub resolve-requires-clause-lawful : goal.resolve-requires-clause-lawful
resolve-requires-clause-lawful c =
    let read = c.in_ok-resources.ensures.ok in
    let same = ap (tree_of read.name) c.new-reading.ensures ∙ drawn_tree read.name c.read_tree-tree.new.texts.items c.in_ok-types.types.items c.in_ok-resources.resources.items c.in_ok-types.ensures.ok in
    (read.name, subst IsTreeLawful (sym same) read.lawful)

pub resolve-requires-clause-drawn : goal.resolve-requires-clause-drawn
resolve-requires-clause-drawn c = subst (λ (types : List TypeValue). All (λ (t : TypeValue). IsLadderOf t.program t.ladder) types) (sym (ap (λ (r : ReadingValue). r.types) c.new-reading.ensures)) c.in_ok-types.ensures.ok.ladders

pub returns-clause-ok : goal.returns-clause-ok
returns-clause-ok c =
    let read = c.in_ok-resources.ensures.ok in
    let texts = c.read_tree-tree.new.texts.items in
    let types = c.in_ok-types.types.items in
    let rs = c.in_ok-resources.resources.items in
    let drawn = c.in_ok-types.ensures.ok in
    let tree = tree_written read.name texts rs in
    let same = ap (tree_of read.name) c.new-reading.ensures ∙ drawn_tree read.name texts types rs drawn in
    let spelled = map (λ (w : WordValue). w.token) c.in_ok-words.words in
    let words : spelled ≡ words_of tree =
    ap (λ (ws : List WordValue). map (λ (w : WordValue). w.token) ws) (sym c.words-2.ensures.value) ∙ ap (λ (r : ReaderValue). r.words) (sym c.new-reader.ensures) ∙ read.written ∙ ap (λ (rest : List Token). words_of tree ++ rest) c.in_ok-end.ensures.ok ∙ append-nil (words_of tree) in
    let known : All (λ w. w ≢ token.Unknown) spelled = subst (λ (ws : List Token). All (λ w. w ≢ token.Unknown) ws) (sym words) (words_known tree) in
    record {
      tree = tree;
      spelled = subst (λ (ws : List Token). Spells (without_last 13 c.args.text.now) ws) words (c.in_ok-words.ensures.spelled known);
      faultless = record {
        lawful = read.lawful;
        drawn = drawn_have_ladders texts types drawn;
        sources = subst (λ (t : Tree). All (AreBindsFed t) (all_uses t)) same (c.in_ok-plant.ensures.sources read.name);
      };
      stands = subst (λ (t : Tree). IsPlantOf t c.in_ok-plant.plant) same (c.in_ok-plant.ensures.ok read.name);
      typed = ap (λ (t : Tree). t.programs) same;
      drawn = subst (λ (types : List TypeValue). All (λ (t : TypeValue). IsLadderOf t.program t.ladder) types) (sym (ap (λ (r : ReadingValue). r.types) c.new-reading.ensures)) drawn.ladders;
    }

pub returns-in_err-types-clause-body : goal.returns-in_err-types-clause-body
returns-in_err-types-clause-body c =
    let fault = c.in_err-types.field-0.0 in
    let ws = c.in_ok-words.words in
    let words : map (λ (w : WordValue). w.token) ws ≡ c.new-reader.result.words = ap (λ (ws : List WordValue). map (λ (w : WordValue). w.token) ws) (sym c.words-2.ensures.value) ∙ ap (λ (r : ReaderValue). r.words) (sym c.new-reader.ensures) in
    let bodies : body_lines ws ≡ c.new-reader.result.bodies = ap (λ (ws : List WordValue). body_lines ws) (sym c.words-2.ensures.value) ∙ ap (λ (r : ReaderValue). r.bodies) (sym c.new-reader.ensures) in
    let texts = c.read_tree-tree.new.texts.items in
    let met = c.read_tree-tree.ensures.texts in
    kept_fault fault (λ f. IsOfBody f.kind → IsBodyFaultIn c.args.text.now f) c.from_residual-in_err-types.result c.from_residual-in_err-types.ensures.1
    (λ of. let begun = begun_by_programs (without_last 13 c.args.text.now) ws texts met.rest met.more c.in_ok-words.ensures.begun (words ∙ met.written) (bodies ∙ met.lines) in
    record {
      texts = texts;
      words = begun.0;
      begun = begun.1;
      written = begun.2;
      lines = begun.3;
      declared = c.read_tree-tree.ensures.declared;
      first = c.in_err-types.ensures.fault (λ m. memory_no_body fault m of);
    })

pub returns-in_err-types-clause-name : goal.returns-in_err-types-clause-name
returns-in_err-types-clause-name c =
    let fault = c.in_err-types.field-0.0 in
    kept_fault fault (λ f. IsOfDeclaredName f.kind → IsNameFaultIn c.args.text.now f) c.from_residual-in_err-types.result c.from_residual-in_err-types.ensures.1
    (λ of. let is = (c.in_err-types.ensures.fault (λ m. memory_no_name fault m of)).fault_is in absurd (body_no_name fault.kind is.why is.kind_is of))

pub returns-in_err-resources-clause-value : goal.returns-in_err-resources-clause-value
returns-in_err-resources-clause-value c =
    let word = c.in_err-resources.field-0.0 in
    kept_fault (fault_of_word word) IsPlantFault c.from_residual-in_err-resources.result c.from_residual-in_err-resources.ensures.1 (plant_of_word word c.in_err-resources.ensures.value)

pub returns-in_err-resources-clause-body : goal.returns-in_err-resources-clause-body
returns-in_err-resources-clause-body c =
    let word = c.in_err-resources.field-0.0 in
    kept_fault (fault_of_word word) (λ f. IsOfBody f.kind → IsBodyFaultIn c.args.text.now f) c.from_residual-in_err-resources.result c.from_residual-in_err-resources.ensures.1
    (λ of. absurd (no_body word c.in_err-resources.ensures.value of))

pub returns-in_err-resources-clause-name : goal.returns-in_err-resources-clause-name
returns-in_err-resources-clause-name c =
    let word = c.in_err-resources.field-0.0 in
    let ws = c.in_ok-words.words in
    let words : map (λ (w : WordValue). w.token) ws ≡ c.new-reader.result.words = ap (λ (ws : List WordValue). map (λ (w : WordValue). w.token) ws) (sym c.words-2.ensures.value) ∙ ap (λ (r : ReaderValue). r.words) (sym c.new-reader.ensures) in
    kept_fault (fault_of_word word) (λ f. IsOfDeclaredName f.kind → IsNameFaultIn c.args.text.now f) c.from_residual-in_err-resources.result c.from_residual-in_err-resources.ensures.1
    (λ of.
    let us = c.words-2.result.now in
    let own = subst (HasLinesOf (map (λ (w : WordValue). w.line) us)) (sym c.new-reader.ensures) (own_lines us _) in
    let left = subst (λ (vs : List WordValue). HasLinesOf (map (λ (w : WordValue). w.line) vs) c.new-reader.result) c.words-2.ensures.value own in
    let met = c.in_err-resources.ensures.name (map (λ (w : WordValue). w.line) ws) left (of_name word.kind of) in
    let texts = c.read_tree-tree.new.texts.items in
    let few : length ws < 2 ^ 63 = subst (λ (vs : List WordValue). length vs < 2 ^ 63) c.words-2.ensures.value c.words-2.ensures.few in
    let begun = begun_by_refused (without_last 13 c.args.text.now) (programs_of texts) ws word.kind word.line c.new-reader.result.words c.in_ok-words.ensures.begun words few met in
    let token_of : WordValue → Token = λ (w : WordValue). w.token in
    let drawn = bodies_drawn (map token_of (begun.before ++ begun.word ∷ [])) texts c.in_ok-types.types.items c.in_ok-types.ensures.ok begun.alone in
    inl (record {
      kind = word.kind;
      kind_is = refl;
      before = begun.before;
      word = begun.word;
      begun = begun.begun;
      refused = begun.refused;
      drawn = front_drawn (map token_of begun.before) (begun.word.token ∷ []) (subst AreBodiesDrawn (map-append token_of begun.before (begun.word ∷ [])) drawn);
      line_is = begun.line_is;
    }))

pub returns-in_err-plant-clause-value : goal.returns-in_err-plant-clause-value
returns-in_err-plant-clause-value c =
    let word = c.in_err-plant.field-0.0 in
    kept_fault (fault_of_word word) IsPlantFault c.from_residual-in_err-plant.result c.from_residual-in_err-plant.ensures.1 (plant_of_word word c.in_err-plant.ensures.value)

pub returns-in_err-plant-clause-body : goal.returns-in_err-plant-clause-body
returns-in_err-plant-clause-body c =
    let word = c.in_err-plant.field-0.0 in
    kept_fault (fault_of_word word) (λ f. IsOfBody f.kind → IsBodyFaultIn c.args.text.now f) c.from_residual-in_err-plant.result c.from_residual-in_err-plant.ensures.1
    (λ of. absurd (no_body word c.in_err-plant.ensures.value of))

pub returns-in_err-plant-clause-name : goal.returns-in_err-plant-clause-name
returns-in_err-plant-clause-name c =
    let word = c.in_err-plant.field-0.0 in
    kept_fault (fault_of_word word) (λ f. IsOfDeclaredName f.kind → IsNameFaultIn c.args.text.now f) c.from_residual-in_err-plant.result c.from_residual-in_err-plant.ensures.1
    (λ of.
    let read = c.in_ok-resources.ensures.ok in
    let texts = c.read_tree-tree.new.texts.items in
    let rs = c.in_ok-resources.resources.items in
    let tree = tree_written read.name texts rs in
    let same = ap (tree_of read.name) c.new-reading.ensures ∙ drawn_tree read.name texts c.in_ok-types.types.items rs c.in_ok-types.ensures.ok in
    let ws = c.in_ok-words.words in
    let words : map (λ (w : WordValue). w.token) ws ≡ c.new-reader.result.words = ap (λ (ws : List WordValue). map (λ (w : WordValue). w.token) ws) (sym c.words-2.ensures.value) ∙ ap (λ (r : ReaderValue). r.words) (sym c.new-reader.ensures) in
    let begun = begun_by_front (without_last 13 c.args.text.now) ws c.new-reader.result.words (words_of tree) c.read_tree-tree.new.reader.words c.in_ok-words.ensures.begun words read.written (words_known tree) in
    let us = c.words-2.result.now in
    let line_of : WordValue → ℕ = λ (w : WordValue). w.line in
    let own = subst (HasLinesOf (map line_of us)) (sym c.new-reader.ensures) (own_lines us _) in
    let left = subst (λ (vs : List WordValue). HasLinesOf (map line_of vs) c.new-reader.result) c.words-2.ensures.value own in
    let parts : map line_of ws ≡ map line_of begun.0 ++ map line_of begun.3 = ap (map line_of) begun.4 ∙ map-append line_of begun.0 begun.3 in
    let lined = sources_cut (map line_of begun.0) (map line_of begun.3) c.read_tree-tree.new.reader.words (length-map begun.3 line_of ∙ begun.5) rs (subst (λ (all : List ℕ). AreSourcesOn all rs c.read_tree-tree.new.reader.words) parts (c.in_ok-resources.ensures.lined (map line_of ws) left)) in
    inr (record {
      kind = word.kind;
      kind_is = refl;
      tree = tree;
      words = begun.0;
      begun = begun.1;
      written = begun.2;
      lined = lined;
      lawful = read.lawful;
      drawn = drawn_have_ladders texts c.in_ok-types.types.items c.in_ok-types.ensures.ok;
      refused = λ fed. c.in_err-plant.ensures.refused (λ memory. subst names.IsOfName memory (of_name word.kind of)) read.name (subst (λ (t : Tree). All (AreBindsFed t) (all_uses t)) (sym same) fed);
      wrong = subst (λ (t : Tree). HasFirstSourceFault t word.kind word.line) same (c.in_err-plant.ensures.why (λ memory. subst names.IsOfName memory (of_name word.kind of)) read.name);
    }))

pub returns-in_err-end-clause-value : goal.returns-in_err-end-clause-value
returns-in_err-end-clause-value c =
    let word = c.in_err-end.field-0.0 in
    kept_fault (fault_of_word word) IsPlantFault c.from_residual-in_err-end.result c.from_residual-in_err-end.ensures.1 (plant_of_word word c.in_err-end.ensures.value)

pub returns-in_err-end-clause-body : goal.returns-in_err-end-clause-body
returns-in_err-end-clause-body c =
    let word = c.in_err-end.field-0.0 in
    kept_fault (fault_of_word word) (λ f. IsOfBody f.kind → IsBodyFaultIn c.args.text.now f) c.from_residual-in_err-end.result c.from_residual-in_err-end.ensures.1
    (λ of. absurd (no_body word c.in_err-end.ensures.value of))

pub returns-in_err-end-clause-name : goal.returns-in_err-end-clause-name
returns-in_err-end-clause-name c =
    let word = c.in_err-end.field-0.0 in
    kept_fault (fault_of_word word) (λ f. IsOfDeclaredName f.kind → IsNameFaultIn c.args.text.now f) c.from_residual-in_err-end.result c.from_residual-in_err-end.ensures.1
    (λ of. absurd (no_name word.kind c.in_err-end.ensures.tells of))

pub returns-in_err-types-clause-refused : goal.returns-in_err-types-clause-refused
returns-in_err-types-clause-refused c =
    let fault = c.in_err-types.field-0.0 in
    let ws = c.in_ok-words.words in
    let words : map (λ (w : WordValue). w.token) ws ≡ c.new-reader.result.words = ap (λ (ws : List WordValue). map (λ (w : WordValue). w.token) ws) (sym c.words-2.ensures.value) ∙ ap (λ (r : ReaderValue). r.words) (sym c.new-reader.ensures) in
    let texts = c.read_tree-tree.new.texts.items in
    let met = c.read_tree-tree.ensures.texts in
    kept_fault fault (λ f. f.kind ≢ Memory → IsNoPlant c.args.text.now) c.from_residual-in_err-types.result c.from_residual-in_err-types.ensures.1
    (λ other tree spelled faultless.
    let start : c.new-reader.result.words ≡ words_of tree ++ [] = sym words ∙ c.in_ok-words.ensures.every (words_of tree) (c.words_are_in_place.ensures tree (omega (arith, faultless.lawful.few_types))) spelled ∙ sym (append-nil (words_of tree)) in
    let first = c.programs_are_the_first.ensures (programs_of texts) tree met.rest [] (sym met.written ∙ start) in
    c.in_err-types.ensures.refused other (ladders_same texts tree.programs first.0 first.1 faultless.drawn))

pub returns-in_err-resources-clause-refused : goal.returns-in_err-resources-clause-refused
returns-in_err-resources-clause-refused c =
    let word = c.in_err-resources.field-0.0 in
    let ws = c.in_ok-words.words in
    let words : map (λ (w : WordValue). w.token) ws ≡ c.new-reader.result.words = ap (λ (ws : List WordValue). map (λ (w : WordValue). w.token) ws) (sym c.words-2.ensures.value) ∙ ap (λ (r : ReaderValue). r.words) (sym c.new-reader.ensures) in
    kept_fault (fault_of_word word) (λ f. f.kind ≢ Memory → IsNoPlant c.args.text.now) c.from_residual-in_err-resources.result c.from_residual-in_err-resources.ensures.1
    (λ other tree spelled faultless.
    let start : c.new-reader.result.words ≡ words_of tree ++ [] = sym words ∙ c.in_ok-words.ensures.every (words_of tree) (c.words_are_in_place.ensures tree (omega (arith, faultless.lawful.few_types))) spelled ∙ sym (append-nil (words_of tree)) in
    c.in_err-resources.ensures.refused (λ memory. other (ap kind_of_word memory)) tree [] start faultless.lawful)

pub returns-in_err-plant-clause-refused : goal.returns-in_err-plant-clause-refused
returns-in_err-plant-clause-refused c =
    let word = c.in_err-plant.field-0.0 in
    let ws = c.in_ok-words.words in
    let words : map (λ (w : WordValue). w.token) ws ≡ c.new-reader.result.words = ap (λ (ws : List WordValue). map (λ (w : WordValue). w.token) ws) (sym c.words-2.ensures.value) ∙ ap (λ (r : ReaderValue). r.words) (sym c.new-reader.ensures) in
    let texts = c.read_tree-tree.new.texts.items in
    let types = c.in_ok-types.types.items in
    let rs = c.in_ok-resources.resources.items in
    kept_fault (fault_of_word word) (λ f. f.kind ≢ Memory → IsNoPlant c.args.text.now) c.from_residual-in_err-plant.result c.from_residual-in_err-plant.ensures.1
    (λ other tree spelled faultless.
    let start : c.new-reader.result.words ≡ words_of tree ++ [] = sym words ∙ c.in_ok-words.ensures.every (words_of tree) (c.words_are_in_place.ensures tree (omega (arith, faultless.lawful.few_types))) spelled ∙ sym (append-nil (words_of tree)) in
    let only = c.in_ok-resources.ensures.only tree [] start in
    let same = ap (tree_of tree.name) c.new-reading.ensures ∙ drawn_tree tree.name texts types rs c.in_ok-types.ensures.ok in
    c.in_err-plant.ensures.refused (λ memory. other (ap kind_of_word memory)) tree.name
    (subst (λ (t : Tree). All (AreBindsFed t) (all_uses t)) (sym same) (sources_same tree (tree_written tree.name texts rs) only.1 faultless.sources)))

pub returns-in_err-end-clause-refused : goal.returns-in_err-end-clause-refused
returns-in_err-end-clause-refused c =
    let word = c.in_err-end.field-0.0 in
    let ws = c.in_ok-words.words in
    let words : map (λ (w : WordValue). w.token) ws ≡ c.new-reader.result.words = ap (λ (ws : List WordValue). map (λ (w : WordValue). w.token) ws) (sym c.words-2.ensures.value) ∙ ap (λ (r : ReaderValue). r.words) (sym c.new-reader.ensures) in
    kept_fault (fault_of_word word) (λ f. f.kind ≢ Memory → IsNoPlant c.args.text.now) c.from_residual-in_err-end.result c.from_residual-in_err-end.ensures.1
    (λ other tree spelled faultless.
    let start : c.new-reader.result.words ≡ words_of tree ++ [] = sym words ∙ c.in_ok-words.ensures.every (words_of tree) (c.words_are_in_place.ensures tree (omega (arith, faultless.lawful.few_types))) spelled ∙ sym (append-nil (words_of tree)) in
    c.in_err-end.ensures.err.1 (c.in_ok-resources.ensures.only tree [] start).0)

pub returns-in_err-types-clause-syntax : goal.returns-in_err-types-clause-syntax
returns-in_err-types-clause-syntax c =
    let fault = c.in_err-types.field-0.0 in
    kept_fault fault (λ f. f.kind ≡ Syntax → IsSyntaxIn c.args.text.now f) c.from_residual-in_err-types.result c.from_residual-in_err-types.ensures.1
    (λ syntax. let is = (c.in_err-types.ensures.fault (syntax_no_memory fault syntax)).fault_is in absurd (body_no_syntax fault.kind is.why is.kind_is syntax))

pub returns-in_err-resources-clause-syntax : goal.returns-in_err-resources-clause-syntax
returns-in_err-resources-clause-syntax c =
    let word = c.in_err-resources.field-0.0 in
    let ws = c.in_ok-words.words in
    let words : map (λ (w : WordValue). w.token) ws ≡ c.new-reader.result.words = ap (λ (ws : List WordValue). map (λ (w : WordValue). w.token) ws) (sym c.words-2.ensures.value) ∙ ap (λ (r : ReaderValue). r.words) (sym c.new-reader.ensures) in
    let us = c.words-2.result.now in
    let own = subst (HasLinesOf (map (λ (w : WordValue). w.line) us)) (sym c.new-reader.ensures) (own_lines us _) in
    let left = subst (λ (vs : List WordValue). HasLinesOf (map (λ (w : WordValue). w.line) vs) c.new-reader.result) c.words-2.ensures.value own in
    kept_fault (fault_of_word word) (λ f. f.kind ≡ Syntax → IsSyntaxIn c.args.text.now f) c.from_residual-in_err-resources.result c.from_residual-in_err-resources.ensures.1
    (λ syntax.
    let none = no_tree c.args.text.now (λ tree more few formed plain spelled.
    let start : c.new-reader.result.words ≡ words_of tree ++ more = sym words ∙ c.in_ok-words.ensures.every (words_of tree ++ more) (c.words_behind_are_in_place.ensures tree more few plain) spelled in
    absurd (c.in_err-resources.ensures.syntax (of_syntax word.kind syntax) tree more start formed)) in
    record {
      no_tree = none.0;
      faultless = none.1;
      first = syntax_first c.args.text.now ws c.new-reader.result word.line words
          (bodies_drawn c.new-reader.result.words c.read_tree-tree.new.texts.items c.in_ok-types.types.items c.in_ok-types.ensures.ok (c.in_err-resources.ensures.whole (of_syntax word.kind syntax)))
          left (ap (λ (r : ReaderValue). r.last) c.new-reader.ensures ∙ c.last_line.ensures) c.in_ok-words.ensures.spelled c.in_ok-words.ensures.begun c.in_ok-words.ensures.stops c.in_ok-words.ensures.known c.in_ok-words.ensures.placed
          (c.in_err-resources.ensures.misplaced (of_syntax word.kind syntax) (subst (λ (r : ReaderValue). length r.words < 2 ^ 63) (sym c.new-reader.ensures) (subst (λ n. n < 2 ^ 63) (sym (length-map c.words-2.result.now (λ (w : WordValue). w.token))) c.words-2.ensures.few)));
    })

pub returns-in_err-plant-clause-syntax : goal.returns-in_err-plant-clause-syntax
returns-in_err-plant-clause-syntax c =
    let word = c.in_err-plant.field-0.0 in
    kept_fault (fault_of_word word) (λ f. f.kind ≡ Syntax → IsSyntaxIn c.args.text.now f) c.from_residual-in_err-plant.result c.from_residual-in_err-plant.ensures.1
    (λ syntax. absurd (source_no_syntax word.kind c.in_err-plant.ensures.tells syntax))

pub returns-in_err-end-clause-syntax : goal.returns-in_err-end-clause-syntax
returns-in_err-end-clause-syntax c =
    let word = c.in_err-end.field-0.0 in
    let ws = c.in_ok-words.words in
    let words : map (λ (w : WordValue). w.token) ws ≡ c.new-reader.result.words = ap (λ (ws : List WordValue). map (λ (w : WordValue). w.token) ws) (sym c.words-2.ensures.value) ∙ ap (λ (r : ReaderValue). r.words) (sym c.new-reader.ensures) in
    let read = c.in_ok-resources.ensures.ok in
    let texts = c.read_tree-tree.new.texts.items in
    let types = c.in_ok-types.types.items in
    let rs = c.in_ok-resources.resources.items in
    let drawn = c.in_ok-types.ensures.ok in
    let found = tree_written read.name texts rs in
    let same = ap (tree_of read.name) c.new-reading.ensures ∙ drawn_tree read.name texts types rs drawn in
    let us = c.words-2.result.now in
    let own = subst (HasLinesOf (map (λ (w : WordValue). w.line) us)) (sym c.new-reader.ensures) (own_lines us _) in
    let left = subst (λ (vs : List WordValue). HasLinesOf (map (λ (w : WordValue). w.line) vs) c.new-reader.result) c.words-2.ensures.value own in
    kept_fault (fault_of_word word) (λ f. f.kind ≡ Syntax → IsSyntaxIn c.args.text.now f) c.from_residual-in_err-end.result c.from_residual-in_err-end.ensures.1
    (λ syntax.
    let none = no_tree c.args.text.now (λ tree more few formed plain spelled.
    let start : c.new-reader.result.words ≡ words_of tree ++ more = sym words ∙ c.in_ok-words.ensures.every (words_of tree ++ more) (c.words_behind_are_in_place.ensures tree more few plain) spelled in
    let left = (c.in_ok-resources.ensures.only tree more start).0 in
    let both : words_of found ++ more ≡ words_of tree ++ more = ap (λ (rest : List Token). words_of found ++ rest) (sym left) ∙ sym read.written ∙ start in
    let faultless : IsTreeFaultless found = record {
      lawful = read.lawful;
      drawn = drawn_have_ladders texts types drawn;
      sources = subst (λ (t : Tree). All (AreBindsFed t) (all_uses t)) same (c.in_ok-plant.ensures.sources read.name);
    } in
    let of_faultless : HasFaultlessWords tree = (found, append_cancel_right (words_of found) (words_of tree) more both, faultless) in
    ((λ none. c.in_err-end.ensures.err.1 (left ∙ none)), of_faultless)) in
    record {
      no_tree = none.0;
      faultless = none.1;
      first = syntax_first c.args.text.now ws c.new-reader.result word.line words
          (bodies_drawn c.new-reader.result.words texts types drawn (λ ps more formed parts. c.programs_are_the_first.ensures ps found more c.read_tree-tree.new.reader.words (sym parts ∙ read.written)))
          left (ap (λ (r : ReaderValue). r.last) c.new-reader.ensures ∙ c.last_line.ensures) c.in_ok-words.ensures.spelled c.in_ok-words.ensures.begun c.in_ok-words.ensures.stops c.in_ok-words.ensures.known c.in_ok-words.ensures.placed
          (subst (λ n. MeetsMisplaced c.new-reader.result n) (sym (ap (λ (f : GrammarFault). f.line) c.in_err-end.ensures.err.0)) (c.in_ok-resources.ensures.behind c.in_err-end.ensures.err.1));
    })
