use Rattle.plant_grammar.specs.Steps.NamesRead.{RefusesResource, IsNew}
use Rattle.plant_grammar.specs.Steps.Declaring.{BeginRefused}
use Rattle.plant_grammar.specs.Steps.Reading.{programs_of}
use Rattle.lists.proofs.Results.{kept_fault}
use Rattle.plant_grammar.proofs.ReadLines.{line_before}
use Rattle.plant_grammar.proofs.RefusedPlaces.{resource_named, in_resource}
use Rattle.std.proofs.Common.{◌≡◌, ◌≢◌, ◌<◌, ◌++◌, List, length, ◌∷◌, [], refl, subst, sym}
use Rattle.plant_text.specs.declared.token.Token.{Token}
use Rattle.plant_grammar.specs.declared.grammar_fault.GrammarFaultKind.TheVariants.{Memory}
use Rattle.plant_grammar.specs.declared.grammar.tree.Resource.{Resource}
use Rattle.plant_grammar.specs.Grammar.{resource_words}
use Rattle.plant_grammar.specs.Lawful.{uses_of, IsResourceLawful}
use Rattle.plant_grammar.specs.Steps.ReadParts.{types_alone}
use Rattle.plant_grammar.specs.Steps.Refusing.{HasRoomFor, AreTypesApart}
use Rattle.plant_grammar.proofs.LawfulResources.{items_of_resource, resource_started}
use Rattle.plant_text.specs.declared.token.Keyword.TheVariants as key
use Rattle.plant_grammar.specs.Steps.Expected.{Key, AName, MoreItems, resource_rest, GetsStuck}
use Rattle.plant_grammar.proofs.UnexpectedWords.{key_stuck, name_stuck}
use Rattle.plant_grammar.proofs.WalkedResources.{stuck_more}
use Rattle.plant_grammar.proofs.StuckBehind.{stuck_after_key, stuck_after_name}
use Rattle.plant_text.specs.declared.token.Token.{Token}
use Rattle.plant_text.specs.declared.token.Token.TheVariants as token
use Rattle.plant_grammar.specs.declared.grammar.tree.Resource.{Resource}
use Rattle.plant_grammar.specs.Grammar.{key_word}
use Rattle.plant_grammar.specs.WellFormed.{IsResourceWellFormed}
use Rattle.plant_grammar.specs.NameFaults.{judged_resource}
use Rattle.plant_grammar.specs.Steps.SoundWords.{BeginsSound, IsNothing, judged_items, AreItemsFormed}
use Rattle.plant_grammar.specs.Steps.Refusing.{AreTypesApart}
use Rattle.plant_grammar.proofs.ExpectedWords.{stuck_told}
use Rattle.plant_grammar.proofs.SoundParts.{not_among}
use Rattle.plant_grammar.proofs.LiftedWords.{lift_sound, items_in_resource}
use Rattle.plant_grammar.proofs.SoundFronts.{no_resource_words, resource_begun, resource_named_front}
use Rattle.plant_grammar.proofs.grammar.reader.Reader.resource.Goals as goal

pub returns-in_err-name-clause-names : goal.returns-in_err-name-clause-names
returns-in_err-name-clause-names c =
    let fault = c.in_err-name.field-0.0 in
    let tally = c.args.tally.now in
    kept_fault fault (BeginRefused (λ k. RefusesResource k tally.instances tally.binds (programs_of c.args.types.now) c.args.before.now) c.args.self.now) c.from_residual-in_err-name.result c.from_residual-in_err-name.ensures.1
    (λ all h of. resource_named fault.kind tally.instances tally.binds (programs_of c.args.types.now) c.args.before.now c.args.self.now.words c.keyword.new.self.words (line_before all c.keyword.new.self fault.line (c.in_ok-keyword.ensures.left.0 all h) (c.in_err-name.ensures.line of)) c.in_ok-keyword.ensures.ok c.in_err-name.ensures.tells of)

pub returns-in_err-items-clause-names : goal.returns-in_err-items-clause-names
returns-in_err-items-clause-names c =
    let fault = c.in_err-items.field-0.0 in
    let tally = c.args.tally.now in
    kept_fault fault (BeginRefused (λ k. RefusesResource k tally.instances tally.binds (programs_of c.args.types.now) c.args.before.now) c.args.self.now) c.from_residual-in_err-items.result c.from_residual-in_err-items.ensures.1
    (λ all h of. in_resource fault.kind tally.instances tally.binds (programs_of c.args.types.now) c.args.before.now c.in_ok-name.name c.in_ok-node.node
    c.args.self.now.words c.keyword.new.self.words c.resource_name.new.self.words c.keyword-2.new.self.words c.name-2.new.self.words
    c.in_ok-keyword.ensures.ok c.in_ok-name.ensures.ok c.in_ok-keyword-2.ensures.ok c.in_ok-node.ensures.ok (c.in_ok-name.ensures.new, c.in_ok-name.ensures.few) (c.in_err-items.ensures.names all (c.in_ok-node.ensures.left.0 all (c.in_ok-keyword-2.ensures.left.0 all (c.in_ok-name.ensures.left.0 all (c.in_ok-keyword.ensures.left.0 all h)))) of))

pub returns-in_err-items-clause-other : goal.returns-in_err-items-clause-other
returns-in_err-items-clause-other c =
    let fault = c.in_err-items.field-0.0 in
    kept_fault fault (λ f. f.kind ≢ Memory → (r : Resource) (rest : List Token) → c.args.self.now.words ≡ resource_words r ++ rest → AreTypesApart c.args.types.now → IsNew (λ (r : Resource). r.name) c.args.before.now r.name → length c.args.before.now < 16 → IsResourceLawful (types_alone c.args.types.now) r → HasRoomFor c.args.tally.now (uses_of r) → ⊥) c.from_residual-in_err-items.result c.from_residual-in_err-items.ensures.1
    (λ known r rest e apart new few lawful room.
    let words = resource_started r c.in_ok-name.name c.in_ok-node.node c.args.self.now.words c.keyword.new.self.words c.resource_name.new.self.words c.keyword-2.new.self.words c.name-2.new.self.words rest
    c.in_ok-keyword.ensures.ok c.in_ok-name.ensures.ok c.in_ok-keyword-2.ensures.ok c.in_ok-node.ensures.ok e in
    c.in_err-items.ensures.other known r.items.items rest words apart (items_of_resource (types_alone c.args.types.now) r lawful) room)

pub returns-clause-lined : goal.returns-clause-lined
returns-clause-lined c = λ all h.
    c.in_ok-items.ensures.lined all (c.in_ok-node.ensures.left.0 all (c.in_ok-keyword-2.ensures.left.0 all (c.in_ok-name.ensures.left.0 all (c.in_ok-keyword.ensures.left.0 all h))))

pub returns-in_err-keyword-clause-stuck : goal.returns-in_err-keyword-clause-stuck
returns-in_err-keyword-clause-stuck c =
    let fault = c.in_err-keyword.field-0.0 in
    let start = c.args.self.now in
    let programs = programs_of c.args.types.now in
    let i = c.args.tally.now.instances in
    let m = c.args.tally.now.binds in
    let before = c.args.before.now in
    let Known : List Token → Type 0 = λ words. AreTypesApart c.args.types.now → BeginsSound (judged_resource programs i m before) IsResourceWellFormed words in
    kept_fault fault (GetsStuck Known (Key key.Resource ∷ resource_rest) start) c.from_residual.result c.from_residual.ensures.1
    (key_stuck Known (λ apart. no_resource_words programs i m before) key.Resource (AName ∷ Key key.On ∷ AName ∷ MoreItems ∷ []) start fault c.in_err-keyword.ensures.err.0 c.in_err-keyword.ensures.other)

pub returns-in_err-name-clause-stuck : goal.returns-in_err-name-clause-stuck
returns-in_err-name-clause-stuck c =
    let fault = c.in_err-name.field-0.0 in
    let start = c.args.self.now in
    let one = c.keyword.new.self in
    let programs = programs_of c.args.types.now in
    let i = c.args.tally.now.instances in
    let m = c.args.tally.now.binds in
    let before = c.args.before.now in
    let Known : List Token → Type 0 = λ words. AreTypesApart c.args.types.now → BeginsSound (judged_resource programs i m before) IsResourceWellFormed words in
    kept_fault fault (GetsStuck Known (Key key.Resource ∷ resource_rest) start) c.from_residual-in_err-name.result c.from_residual-in_err-name.ensures.1
    (stuck_after_key Known key.Resource (AName ∷ Key key.On ∷ AName ∷ MoreItems ∷ []) start one fault c.in_ok-keyword.ensures.ok c.in_ok-keyword.ensures.left
    (stuck_told (λ w. Known (key_word key.Resource ∷ w)) IsNothing (AName ∷ Key key.On ∷ AName ∷ MoreItems ∷ []) one fault
    (λ w none apart. subst (λ (v : List Token). BeginsSound (judged_resource programs i m before) IsResourceWellFormed (key_word key.Resource ∷ v)) (sym none) (resource_begun programs i m before))
    (stuck_more IsNothing (AName ∷ []) (Key key.On ∷ AName ∷ MoreItems ∷ []) one fault c.in_err-name.ensures.stuck)))

pub returns-in_err-keyword-2-clause-stuck : goal.returns-in_err-keyword-2-clause-stuck
returns-in_err-keyword-2-clause-stuck c =
    let fault = c.in_err-keyword-2.field-0.0 in
    let start = c.args.self.now in
    let one = c.keyword.new.self in
    let two = c.resource_name.new.self in
    let programs = programs_of c.args.types.now in
    let i = c.args.tally.now.instances in
    let m = c.args.tally.now.binds in
    let before = c.args.before.now in
    let Known : List Token → Type 0 = λ words. AreTypesApart c.args.types.now → BeginsSound (judged_resource programs i m before) IsResourceWellFormed words in
    kept_fault fault (GetsStuck Known (Key key.Resource ∷ resource_rest) start) c.from_residual-in_err-keyword-2.result c.from_residual-in_err-keyword-2.ensures.1
    (stuck_after_key Known key.Resource (AName ∷ Key key.On ∷ AName ∷ MoreItems ∷ []) start one fault c.in_ok-keyword.ensures.ok c.in_ok-keyword.ensures.left
    (stuck_after_name (λ w. Known (key_word key.Resource ∷ w)) c.in_ok-name.name (Key key.On ∷ AName ∷ MoreItems ∷ []) one two fault c.in_ok-name.ensures.ok c.in_ok-name.ensures.left
    (key_stuck (λ w. Known (key_word key.Resource ∷ token.Name c.in_ok-name.name ∷ w)) (λ apart. resource_named_front programs i m before c.in_ok-name.name [] (key_word key.On ∷ []) c.in_ok-name.ensures.new c.in_ok-name.ensures.few refl) key.On (AName ∷ MoreItems ∷ []) two fault c.in_err-keyword-2.ensures.err.0 c.in_err-keyword-2.ensures.other)))

pub returns-in_err-node-clause-stuck : goal.returns-in_err-node-clause-stuck
returns-in_err-node-clause-stuck c =
    let fault = c.in_err-node.field-0.0 in
    let start = c.args.self.now in
    let one = c.keyword.new.self in
    let two = c.resource_name.new.self in
    let three = c.keyword-2.new.self in
    let programs = programs_of c.args.types.now in
    let i = c.args.tally.now.instances in
    let m = c.args.tally.now.binds in
    let before = c.args.before.now in
    let Known : List Token → Type 0 = λ words. AreTypesApart c.args.types.now → BeginsSound (judged_resource programs i m before) IsResourceWellFormed words in
    kept_fault fault (GetsStuck Known (Key key.Resource ∷ resource_rest) start) c.from_residual-in_err-node.result c.from_residual-in_err-node.ensures.1
    (stuck_after_key Known key.Resource (AName ∷ Key key.On ∷ AName ∷ MoreItems ∷ []) start one fault c.in_ok-keyword.ensures.ok c.in_ok-keyword.ensures.left
    (stuck_after_name (λ w. Known (key_word key.Resource ∷ w)) c.in_ok-name.name (Key key.On ∷ AName ∷ MoreItems ∷ []) one two fault c.in_ok-name.ensures.ok c.in_ok-name.ensures.left
    (stuck_after_key (λ w. Known (key_word key.Resource ∷ token.Name c.in_ok-name.name ∷ w)) key.On (AName ∷ MoreItems ∷ []) two three fault c.in_ok-keyword-2.ensures.ok c.in_ok-keyword-2.ensures.left
    (name_stuck (λ w. Known (key_word key.Resource ∷ token.Name c.in_ok-name.name ∷ key_word key.On ∷ w)) (λ apart. resource_named_front programs i m before c.in_ok-name.name (key_word key.On ∷ []) [] c.in_ok-name.ensures.new c.in_ok-name.ensures.few refl) (MoreItems ∷ []) three fault c.in_err-node.ensures.err c.in_err-node.ensures.other))))

pub returns-in_err-items-clause-stuck : goal.returns-in_err-items-clause-stuck
returns-in_err-items-clause-stuck c =
    let fault = c.in_err-items.field-0.0 in
    let start = c.args.self.now in
    let one = c.keyword.new.self in
    let two = c.resource_name.new.self in
    let three = c.keyword-2.new.self in
    let four = c.name-2.new.self in
    let programs = programs_of c.args.types.now in
    let i = c.args.tally.now.instances in
    let m = c.args.tally.now.binds in
    let before = c.args.before.now in
    let Known : List Token → Type 0 = λ words. AreTypesApart c.args.types.now → BeginsSound (judged_resource programs i m before) IsResourceWellFormed words in
    kept_fault fault (GetsStuck Known (Key key.Resource ∷ resource_rest) start) c.from_residual-in_err-items.result c.from_residual-in_err-items.ensures.1
    (stuck_after_key Known key.Resource (AName ∷ Key key.On ∷ AName ∷ MoreItems ∷ []) start one fault c.in_ok-keyword.ensures.ok c.in_ok-keyword.ensures.left
    (stuck_after_name (λ w. Known (key_word key.Resource ∷ w)) c.in_ok-name.name (Key key.On ∷ AName ∷ MoreItems ∷ []) one two fault c.in_ok-name.ensures.ok c.in_ok-name.ensures.left
    (stuck_after_key (λ w. Known (key_word key.Resource ∷ token.Name c.in_ok-name.name ∷ w)) key.On (AName ∷ MoreItems ∷ []) two three fault c.in_ok-keyword-2.ensures.ok c.in_ok-keyword-2.ensures.left
    (stuck_after_name (λ w. Known (key_word key.Resource ∷ token.Name c.in_ok-name.name ∷ key_word key.On ∷ w)) c.in_ok-node.node (MoreItems ∷ []) three four fault c.in_ok-node.ensures.ok c.in_ok-node.ensures.left
    (stuck_told (λ w. Known (key_word key.Resource ∷ token.Name c.in_ok-name.name ∷ key_word key.On ∷ token.Name c.in_ok-node.node ∷ w)) (λ words. AreTypesApart c.args.types.now → BeginsSound (judged_items programs i m) AreItemsFormed words) (MoreItems ∷ []) four fault
    (λ w b apart. lift_sound (key_word key.Resource ∷ token.Name c.in_ok-name.name ∷ key_word key.On ∷ token.Name c.in_ok-node.node ∷ []) w (judged_items programs i m) AreItemsFormed (judged_resource programs i m before) IsResourceWellFormed
    (λ fits. items_in_resource programs i m before c.in_ok-name.name c.in_ok-node.node (not_among (λ (q : Resource). q.name) before c.in_ok-name.name c.in_ok-name.ensures.new) c.in_ok-name.ensures.few) (b apart)) c.in_err-items.ensures.stuck)))))
