-- What may still stand where it does, so that a rule is to refuse none of it.
use Rattle.std.specs.Prelude.{List, map}
use Rattle.plant_grammar.specs.declared.grammar.tree.Program.{Program}
use Rattle.plant_grammar.specs.declared.grammar.tree.Use.{Use}
use Rattle.plant_grammar.specs.Grammar.{TextValue}
use Rattle.plant_grammar.specs.Names.{AreNamesApart}
use Rattle.plant_grammar.specs.Lawful.{MayBeCounted}
use Rattle.plant_grammar.specs.Steps.ReadParts.{TallyValue}
use Rattle.plant_grammar.specs.Steps.Reading.{programs_of}

-- these instances and their binds may be counted too
abbrev pub HasRoomFor : TallyValue → List Use → Type 0
HasRoomFor t us = MayBeCounted t.instances t.binds us

-- the names of program types are apart
abbrev pub AreTypesApart : List TextValue → Type 0
AreTypesApart types = AreNamesApart (map (λ (t : Program). t.name) (programs_of types))
