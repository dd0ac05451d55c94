-- What is told of each kind of fault, and of each kind of warning.
use Rattle.std.specs.Prelude.{ℕ, List, Option, Some, None}
use Rattle.ladder_text.specs.declared.draw_fault.DrawFaultKind.{DrawFaultKind}
use Rattle.ladder_text.specs.declared.draw_fault.DrawFaultKind.TheVariants as draw
use Rattle.network.specs.declared.fault.GraphFaultKind.{GraphFaultKind}
use Rattle.network.specs.declared.fault.GraphFaultKind.TheVariants as graph
use Rattle.name_faults.specs.declared.bind_fault.BindKind.{BindKind}
use Rattle.name_faults.specs.declared.bind_fault.BindKind.TheVariants as bind
use Rattle.plant.specs.declared.plant_fault.PlantFaultKind.{PlantFaultKind}
use Rattle.plant.specs.declared.plant_fault.PlantFaultKind.TheVariants as plant
use Rattle.plant.specs.declared.plant_fault.BodyFault.{BodyFault}
use Rattle.plant.specs.declared.plant_fault.BodyFault.TheVariants as body
use Rattle.warnings.specs.Sentences.{sentence_of}
use Rattle.warnings.specs.declared.warning.WarningKind.TheVariants as warning
use Rattle.guidance.specs.declared.table.TheConstants as table
use Rattle.guidance.specs.declared.topic.Topic.{Topic}
use Rattle.guidance.specs.declared.topic.Topic.TheVariants as topic

-- what is told of a kind: what is wrong and how it is mended, a text with this fault, and the text mended
pub record Told : Type 0 where
  pub sentence : List ℕ
  pub example : List ℕ
  pub mended : List ℕ

abbrev pub told : List ℕ → List ℕ → List ℕ → Told
told sentence example mended = record { sentence = sentence; example = example; mended = mended }

-- what the table of the code has for each kind, and of a warning the crate of warnings says
abbrev pub told_of : Topic → Told
told_of topic.NotAscii = told table.NOT_ASCII.now table.NOT_ASCII_REFUSED.now table.NOT_ASCII_MENDED.now
told_of topic.TooLarge = told table.TOO_LARGE.now table.TOO_LARGE_REFUSED.now table.TOO_LARGE_MENDED.now
told_of topic.NoLeftRail = told table.NO_LEFT_RAIL.now table.NO_LEFT_RAIL_REFUSED.now table.NO_LEFT_RAIL_MENDED.now
told_of topic.BadBox = told table.BAD_BOX.now table.BAD_BOX_REFUSED.now table.BAD_BOX_MENDED.now
told_of topic.BadMark = told table.BAD_MARK.now table.BAD_MARK_REFUSED.now table.BAD_MARK_MENDED.now
told_of topic.Crossing = told table.CROSSING.now table.CROSSING_REFUSED.now table.CROSSING_MENDED.now
told_of topic.NoSource = told table.NO_SOURCE.now table.NO_SOURCE_REFUSED.now table.NO_SOURCE_MENDED.now
told_of topic.NameMissing = told table.NAME_MISSING.now table.NAME_MISSING_REFUSED.now table.NAME_MISSING_MENDED.now
told_of topic.StrayName = told table.STRAY_NAME.now table.STRAY_NAME_REFUSED.now table.STRAY_NAME_MENDED.now
told_of topic.Unattached = told table.UNATTACHED.now table.UNATTACHED_REFUSED.now table.UNATTACHED_MENDED.now
told_of topic.TooTall = told table.TOO_TALL.now table.TOO_TALL_REFUSED.now table.TOO_TALL_MENDED.now
told_of topic.InstanceTwice =
    told table.INSTANCE_TWICE.now table.INSTANCE_TWICE_REFUSED.now table.INSTANCE_TWICE_MENDED.now
told_of topic.UnknownName = told table.UNKNOWN_NAME.now table.UNKNOWN_NAME_REFUSED.now table.UNKNOWN_NAME_MENDED.now
told_of topic.WrongKind = told table.WRONG_KIND.now table.WRONG_KIND_REFUSED.now table.WRONG_KIND_MENDED.now
told_of topic.WritesInput = told table.WRITES_INPUT.now table.WRITES_INPUT_REFUSED.now table.WRITES_INPUT_MENDED.now
told_of topic.UnknownPin = told table.UNKNOWN_PIN.now table.UNKNOWN_PIN_REFUSED.now table.UNKNOWN_PIN_MENDED.now
told_of topic.PinMissing = told table.PIN_MISSING.now table.PIN_MISSING_REFUSED.now table.PIN_MISSING_MENDED.now
told_of topic.LiteralOutOfRange =
    told table.LITERAL_OUT_OF_RANGE.now table.LITERAL_OUT_OF_RANGE_REFUSED.now table.LITERAL_OUT_OF_RANGE_MENDED.now
told_of topic.PlantSyntax = told table.PLANT_SYNTAX.now table.PLANT_SYNTAX_REFUSED.now table.PLANT_SYNTAX_MENDED.now
told_of topic.BodyDrawing = told table.BODY_DRAWING.now table.BODY_DRAWING_REFUSED.now table.BODY_DRAWING_MENDED.now
told_of topic.BodyGraph = told table.BODY_GRAPH.now table.BODY_GRAPH_REFUSED.now table.BODY_GRAPH_MENDED.now
told_of topic.BodyBind = told table.BODY_BIND.now table.BODY_BIND_REFUSED.now table.BODY_BIND_MENDED.now
told_of topic.PlantNameTwice =
    told table.PLANT_NAME_TWICE.now table.PLANT_NAME_TWICE_REFUSED.now table.PLANT_NAME_TWICE_MENDED.now
told_of topic.PlantUnknownName =
    told table.PLANT_UNKNOWN_NAME.now table.PLANT_UNKNOWN_NAME_REFUSED.now table.PLANT_UNKNOWN_NAME_MENDED.now
told_of topic.PlantWrongKind =
    told table.PLANT_WRONG_KIND.now table.PLANT_WRONG_KIND_REFUSED.now table.PLANT_WRONG_KIND_MENDED.now
told_of topic.InputBoundTwice =
    told table.INPUT_BOUND_TWICE.now table.INPUT_BOUND_TWICE_REFUSED.now table.INPUT_BOUND_TWICE_MENDED.now
told_of topic.TooMany = told table.TOO_MANY.now table.TOO_MANY_REFUSED.now table.TOO_MANY_MENDED.now
told_of topic.TooLong = told table.TOO_LONG.now table.TOO_LONG_REFUSED.now table.TOO_LONG_MENDED.now
told_of topic.ScheduleSyntax =
    told table.SCHEDULE_SYNTAX.now table.SCHEDULE_SYNTAX_REFUSED.now table.SCHEDULE_SYNTAX_MENDED.now
told_of topic.DoubleCoil =
    told (sentence_of warning.DoubleCoil) table.DOUBLE_COIL_WARNED.now table.DOUBLE_COIL_MENDED.now
told_of topic.MistypedContact =
    told (sentence_of warning.MistypedContact) table.MISTYPED_CONTACT_WARNED.now table.MISTYPED_CONTACT_MENDED.now
told_of topic.PresetBetweenScans =
    told (sentence_of warning.PresetBetweenScans) table.PRESET_BETWEEN_SCANS_WARNED.now table.PRESET_BETWEEN_SCANS_MENDED.now
told_of topic.NeverRead =
    told (sentence_of warning.NeverRead) table.NEVER_READ_WARNED.now table.NEVER_READ_MENDED.now
told_of topic.UnboundInput =
    told table.UNBOUND_INPUT.now table.UNBOUND_INPUT_WARNED.now table.UNBOUND_INPUT_MENDED.now
told_of topic.FarAddress =
    told table.FAR_ADDRESS.now table.FAR_ADDRESS_WARNED.now table.FAR_ADDRESS_MENDED.now

-- the kind of fault of a drawing, which is none for want of memory
abbrev pub of_drawing : DrawFaultKind → Option Topic
of_drawing draw.NotAscii = Some topic.NotAscii
of_drawing draw.TooLarge = Some topic.TooLarge
of_drawing draw.NoLeftRail = Some topic.NoLeftRail
of_drawing draw.BadBox = Some topic.BadBox
of_drawing draw.BadMark = Some topic.BadMark
of_drawing draw.Crossing = Some topic.Crossing
of_drawing draw.NoSource = Some topic.NoSource
of_drawing draw.NameMissing = Some topic.NameMissing
of_drawing draw.StrayName = Some topic.StrayName
of_drawing draw.Memory = None

-- the kind of fault of networks
abbrev pub of_networks : GraphFaultKind → Option Topic
of_networks graph.Unattached = Some topic.Unattached
of_networks graph.TooTall = Some topic.TooTall
of_networks graph.InstanceTwice = Some topic.InstanceTwice
of_networks graph.Memory = None

-- the kind of fault of names
abbrev pub of_names : BindKind → Option Topic
of_names bind.UnknownName = Some topic.UnknownName
of_names bind.WrongKind = Some topic.WrongKind
of_names bind.WritesInput = Some topic.WritesInput
of_names bind.UnknownPin = Some topic.UnknownPin
of_names bind.PinMissing = Some topic.PinMissing
of_names bind.LiteralOutOfRange = Some topic.LiteralOutOfRange
of_names bind.Memory = None

-- the kind of fault of a program's body
abbrev pub of_body : BodyFault → Option Topic
of_body (body.Drawing kind) = of_drawing kind
of_body (body.Graph kind) = of_networks kind
of_body (body.Bind kind) = of_names kind

-- the kind of fault of a plant's own text
abbrev pub of_word : PlantFaultKind → Option Topic
of_word plant.Syntax = Some topic.PlantSyntax
of_word plant.Drawing = Some topic.BodyDrawing
of_word plant.Graph = Some topic.BodyGraph
of_word plant.Bind = Some topic.BodyBind
of_word plant.NameTwice = Some topic.PlantNameTwice
of_word plant.UnknownName = Some topic.PlantUnknownName
of_word plant.WrongKind = Some topic.PlantWrongKind
of_word plant.InputBoundTwice = Some topic.InputBoundTwice
of_word plant.TooMany = Some topic.TooMany
of_word plant.Memory = None

-- the kind of fault of a plant: that of its body, where one is told
abbrev pub of_plant : PlantFaultKind → Option BodyFault → Option Topic
of_plant kind None = of_word kind
of_plant _ (Some inner) = of_body inner
