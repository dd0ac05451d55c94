-- How a track shows itself.
use Rattle.std.specs.Prelude.{List, Option, String, string_bytes}
use Rattle.std_blocks.specs.declared.value.Value.{Value}
use Rattle.traces.specs.Tracks.{ScopeValue, TrackValue}

abbrev pub scope_value : {A B : Type 0} → String A → String B → ScopeValue
scope_value resource program = record { resource = string_bytes resource; program = string_bytes program }

abbrev pub track_value : {A : Type 0} → Option ScopeValue → String A → List Value → TrackValue
track_value scope name values = record { scope = scope; name = string_bytes name; values = values }
