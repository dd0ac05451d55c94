-- Where a scan finds the value of a name, an operand or a pin.
use Rattle.std.specs.Prelude.{ℕ, List, [], ◌∷◌, if◌then◌else◌, slice_get}
use Rattle.std.specs.Option.{option_map_or}
use Rattle.std.specs.List.{before_first, after_first}
use Rattle.drawings.specs.declared.drawn_box.DrawnPin.{DrawnPin}
use Rattle.std_blocks.specs.declared.pin.Pin.{Pin}
use Rattle.std_blocks.specs.Pins.{pin_of}
use Rattle.declared_names.specs.declared.declarations.Declaration.{Declaration}
use Rattle.declared_names.specs.declared.declarations.Declared.{Declared}
use Rattle.declared_names.specs.declared.declarations.Declared.TheVariants as declared
use Rattle.name_faults.specs.Literals.{literal_value}
use Rattle.scan_steps.specs.declared.source.Source.{Source}
use Rattle.scan_steps.specs.declared.source.Source.TheVariants as source
use Rattle.declared_names.specs.Names.{place_of, is_dot}

-- the source of an output pin of the block at a place; an input pin is none
abbrev pub output_source : ℕ → Pin → Source
output_source k pin = if pin.left then source.Nothing else source.Output k pin.field

-- the source of what is declared at a place: the variable, or an output pin of the block
abbrev pub declared_source : Declared → ℕ → List ℕ → Source
declared_source (declared.Input kind) k [] = source.Variable k
declared_source (declared.Input kind) k (c ∷ pin) = source.Nothing
declared_source (declared.Output kind) k [] = source.Variable k
declared_source (declared.Output kind) k (c ∷ pin) = source.Nothing
declared_source (declared.Local kind) k [] = source.Variable k
declared_source (declared.Local kind) k (c ∷ pin) = source.Nothing
declared_source (declared.Instance b) k [] = source.Nothing
declared_source (declared.Instance b) k (c ∷ pin) = option_map_or (output_source k) (pin_of b (c ∷ pin)) source.Nothing

-- the source of what a name stands for, as `A` or `T1.Q`
unfoldable pub name_source : List Declaration → List ℕ → Source
name_source ds name =
    option_map_or
    (λ k. option_map_or
    (λ (e : Declaration). declared_source e.declared k (after_first is_dot name)) (slice_get ds k) source.Nothing)
    (place_of ds (before_first is_dot name)) source.Nothing

-- the source of an operand: a literal, or what its name stands for
unfoldable pub operand_source : List Declaration → List ℕ → Source
operand_source ds text = option_map_or source.Literal (literal_value text) (name_source ds text)

-- the source of an INT or TIME pin: its operand, if it has one
abbrev pub pin_source : List Declaration → DrawnPin → Source
pin_source ds pin = option_map_or (λ o. operand_source ds o.text) pin.operand source.Nothing
