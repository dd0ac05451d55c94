-- A fault of a second drawing as that of its text alone.
use Rattle.text_commands.specs.declared.second_fault.SecondFault.{SecondFault}
use Rattle.text_commands.specs.declared.second_fault.SecondFault.TheVariants as second
use Rattle.text_commands.specs.declared.text_fault.TextFault.{TextFault}
use Rattle.text_commands.specs.declared.text_fault.TextFault.TheVariants.{Draw, Graph, Bind}

abbrev pub alone : SecondFault → TextFault
alone (second.Draw fault) = Draw fault
alone (second.Graph fault) = Graph fault
alone (second.Bind fault) = Bind fault
