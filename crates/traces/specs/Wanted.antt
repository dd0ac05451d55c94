-- The texts of a trace that are wanted.
use Rattle.std.specs.Prelude.{◌≡◌, ℕ, ◌&&◌, Bool, not, true, false, if◌then◌else◌, List, None, Some, string_bytes}
use Rattle.std.specs.Option.{option_map, option_map_or}
use Rattle.traces.specs.declared.texts.Wanted.{Wanted}
use Rattle.traces.specs.declared.texts.TraceTexts.{TraceTexts}
use Rattle.traces.specs.Tracks.{TrackValue}
use Rattle.traces.specs.ValueChanges.{dump_of}
use Rattle.traces.specs.Diagram.{diagram_of}

-- The texts of variables over so many moments that begin at these times: the dump, if it is wanted, and the diagram under its
-- title, if it is wanted.
pub record AreTexts (wanted : Wanted) (time : ℕ → ℕ) (moments : ℕ) (tracks : List TrackValue) (texts : TraceTexts) : Type 0 where
  pub dump : option_map (λ t. string_bytes t) texts.dump ≡ (if wanted.dump then Some (dump_of time moments tracks) else None)
  pub diagram : option_map (λ t. string_bytes t) texts.diagram
      ≡ option_map (λ title. diagram_of title.now time moments tracks) wanted.diagram

-- neither of them is wanted
abbrev pub is_nothing : Wanted → Bool
is_nothing wanted = not wanted.dump && option_map_or (λ title. false) wanted.diagram true
