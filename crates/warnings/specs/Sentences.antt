-- What is told of each kind of warning.
use Rattle.std.specs.Prelude.{ℕ, ◌++◌, List, codes}
use Rattle.std.specs.Fmt.{decimal}
use Rattle.words.specs.declared.address.Address.{Address}
use Rattle.words.specs.declared.address.Space.{Space}
use Rattle.words.specs.declared.address.Space.TheVariants.{Bit, Word}
use Rattle.warnings.specs.Far.{AddressNames}
use Rattle.warnings.specs.Unbound.{InputNames}
use Rattle.warnings.specs.declared.warning.WarningKind.{WarningKind}
use Rattle.warnings.specs.declared.warning.WarningKind.TheVariants as warning

-- what is most likely not meant, and what to write instead
abbrev pub sentence_of : WarningKind → List ℕ
sentence_of warning.DoubleCoil =
    codes "Another coil stores into this variable later in each scan, so that what this one stores doesn't last. Give one rung the coil, with both conditions in parallel, or use (S) and (R)."
sentence_of warning.MistypedContact =
    codes "Nothing stores into this variable, and another name is nearly the same. Where that one is meant, write it alike; a variable of its own has a name that differs by more than a letter."
sentence_of warning.NeverRead =
    codes "Nothing reads this variable, and it is no output. Read it, declare it as VAR_OUTPUT, or leave it out."
sentence_of warning.PresetBetweenScans =
    codes "PT isn't a multiple of --dt, so that this timer is done later, at the next scan. Choose a --dt that divides PT."

-- the same of an input that isn't bound
abbrev pub unbound_sentence : InputNames → List ℕ
unbound_sentence names =
    names.resource ++ codes "." ++ names.instance ++ codes " doesn't bind its input " ++ names.input
    ++ codes ", which so keeps its first value, FALSE or 0. Bind it, or take it out of VAR_INPUT."

-- what the addresses of a space begin with
abbrev pub space_text : Space → List ℕ
space_text Bit = codes "%IX"
space_text Word = codes "%IW"

-- an address as it is written
abbrev pub address_text : Address → List ℕ
address_text a = space_text a.space ++ decimal a.number

-- an instance, as `R.I`
unfoldable pub instance_text : AddressNames → List ℕ
instance_text names = names.resource ++ codes "." ++ names.instance

-- which input reads which address
unfoldable pub far_reading : AddressNames → List ℕ
far_reading names =
    instance_text names ++ codes " reads " ++ address_text names.address ++ codes " as its input " ++ names.input

-- the same of an address far from all others
abbrev pub far_sentence : AddressNames → List ℕ
far_sentence names =
    far_reading names ++ codes ", more than 63 away from each other " ++ space_text names.address.space
    ++ codes " that " ++ names.resource
    ++ codes " reads, though two of these are closer together. Check its number."
