-- The kinds of faults and warnings: their names, and where they are met.
use Rattle.std.specs.Prelude.{ℕ, List, codes}
use Rattle.guidance.specs.declared.advice.Layer.{Layer}
use Rattle.guidance.specs.declared.advice.Layer.TheVariants as layer
use Rattle.guidance.specs.declared.topic.Topic.{Topic}
use Rattle.guidance.specs.declared.topic.Topic.TheVariants as topic

-- where a kind of fault is met
abbrev pub layer_text : Layer → List ℕ
layer_text layer.Drawing = codes "in a drawing"
layer_text layer.Networks = codes "in the networks of a drawing"
layer_text layer.Names = codes "at the names of a drawing"
layer_text layer.Plant = codes "in a plant"
layer_text layer.Plan = codes "in the plan of a plant"
layer_text layer.Schedule = codes "in a schedule"
layer_text layer.WarnedDrawing = codes "as a warning of a drawing"
layer_text layer.WarnedPlant = codes "as a warning of a plant"

-- what becomes of a text of a kind
abbrev pub heading_of : Layer → List ℕ
heading_of layer.Drawing = codes "Refused"
heading_of layer.Networks = codes "Refused"
heading_of layer.Names = codes "Refused"
heading_of layer.Plant = codes "Refused"
heading_of layer.Plan = codes "Refused"
heading_of layer.Schedule = codes "Refused"
heading_of layer.WarnedDrawing = codes "Warned of"
heading_of layer.WarnedPlant = codes "Warned of"

-- the layer of a kind
abbrev pub layer_of : Topic → Layer
layer_of topic.NotAscii = layer.Drawing
layer_of topic.TooLarge = layer.Drawing
layer_of topic.NoLeftRail = layer.Drawing
layer_of topic.BadBox = layer.Drawing
layer_of topic.BadMark = layer.Drawing
layer_of topic.Crossing = layer.Drawing
layer_of topic.NoSource = layer.Drawing
layer_of topic.NameMissing = layer.Drawing
layer_of topic.StrayName = layer.Drawing
layer_of topic.Unattached = layer.Networks
layer_of topic.TooTall = layer.Networks
layer_of topic.InstanceTwice = layer.Networks
layer_of topic.UnknownName = layer.Names
layer_of topic.WrongKind = layer.Names
layer_of topic.WritesInput = layer.Names
layer_of topic.UnknownPin = layer.Names
layer_of topic.PinMissing = layer.Names
layer_of topic.LiteralOutOfRange = layer.Names
layer_of topic.PlantSyntax = layer.Plant
layer_of topic.BodyDrawing = layer.Plant
layer_of topic.BodyGraph = layer.Plant
layer_of topic.BodyBind = layer.Plant
layer_of topic.PlantNameTwice = layer.Plant
layer_of topic.PlantUnknownName = layer.Plant
layer_of topic.PlantWrongKind = layer.Plant
layer_of topic.InputBoundTwice = layer.Plant
layer_of topic.TooMany = layer.Plant
layer_of topic.TooLong = layer.Plan
layer_of topic.ScheduleSyntax = layer.Schedule
layer_of topic.DoubleCoil = layer.WarnedDrawing
layer_of topic.MistypedContact = layer.WarnedDrawing
layer_of topic.PresetBetweenScans = layer.WarnedDrawing
layer_of topic.NeverRead = layer.WarnedPlant
layer_of topic.UnboundInput = layer.WarnedPlant
layer_of topic.FarAddress = layer.WarnedPlant

-- the name of a kind, as messages have it
abbrev pub kind_text : Topic → List ℕ
kind_text topic.NotAscii = codes "NotAscii"
kind_text topic.TooLarge = codes "TooLarge"
kind_text topic.NoLeftRail = codes "NoLeftRail"
kind_text topic.BadBox = codes "BadBox"
kind_text topic.BadMark = codes "BadMark"
kind_text topic.Crossing = codes "Crossing"
kind_text topic.NoSource = codes "NoSource"
kind_text topic.NameMissing = codes "NameMissing"
kind_text topic.StrayName = codes "StrayName"
kind_text topic.Unattached = codes "Unattached"
kind_text topic.TooTall = codes "TooTall"
kind_text topic.InstanceTwice = codes "InstanceTwice"
kind_text topic.UnknownName = codes "UnknownName"
kind_text topic.WrongKind = codes "WrongKind"
kind_text topic.WritesInput = codes "WritesInput"
kind_text topic.UnknownPin = codes "UnknownPin"
kind_text topic.PinMissing = codes "PinMissing"
kind_text topic.LiteralOutOfRange = codes "LiteralOutOfRange"
kind_text topic.PlantSyntax = codes "Syntax"
kind_text topic.BodyDrawing = codes "Drawing"
kind_text topic.BodyGraph = codes "Graph"
kind_text topic.BodyBind = codes "Bind"
kind_text topic.PlantNameTwice = codes "NameTwice"
kind_text topic.PlantUnknownName = codes "UnknownName"
kind_text topic.PlantWrongKind = codes "WrongKind"
kind_text topic.InputBoundTwice = codes "InputBoundTwice"
kind_text topic.TooMany = codes "TooMany"
kind_text topic.TooLong = codes "TooLong"
kind_text topic.ScheduleSyntax = codes "Syntax"
kind_text topic.DoubleCoil = codes "DoubleCoil"
kind_text topic.MistypedContact = codes "MistypedContact"
kind_text topic.PresetBetweenScans = codes "PresetBetweenScans"
kind_text topic.NeverRead = codes "NeverRead"
kind_text topic.UnboundInput = codes "UnboundInput"
kind_text topic.FarAddress = codes "FarAddress"
