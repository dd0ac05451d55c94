-- Why a command ended, from why a part of it did.
use Rattle.std.proofs.Common.{◌≡◌, ℕ, List, Option, Result, IfErr, inl, inr}
use Rattle.std.proofs.KnownBytes.{Keeps-refl}
use Rattle.network.specs.Links.{Diagram}
use Rattle.declared_names.specs.declared.declarations.Declaration.{Declaration}
use Rattle.std.specs.Result.{IsErrAnd}
use Rattle.lists.proofs.Results.{kept_fault}
use Rattle.text_lines.specs.declared.send_fault.SendFault.{SendFault}
use Rattle.text_lines.specs.declared.send_fault.SendFault.TheVariants as sending
use Rattle.text_commands.specs.Giving.{sending_fault}
use Rattle.text_commands.specs.Series.{SeriesValue, SpellSettings, scans_of}
use Rattle.text_commands.specs.Restarts.{without_restarts}
use Rattle.text_commands.specs.declared.text_command_fault.TextCommandFault.{TextCommandFault}
use Rattle.text_commands.specs.declared.text_command_fault.TextCommandFault.TheVariants.{Text, Word, Write, Memory}
use Rattle.text_commands.specs.EvalText.{IsLadderOfDrawing, Asked, WritesAll, WritesScans, StopsScans, Explains}
use Rattle.text_commands.specs.Steps.Refusing.{RefusesLadder}
use Rattle.text_commands.specs.Steps.Testing.{RefusesSet}

pub explain_ladder : (drawing : List ℕ) (words : List (List ℕ)) (dt : ℕ) (old : Option (List ℕ)) (fault : TextCommandFault) → RefusesLadder drawing fault
    → Explains drawing words dt old old fault
explain_ladder drawing words dt old (Text fault) refused = (refused, Keeps-refl old)
explain_ladder drawing words dt old (Word fault) refused = absurd refused
explain_ladder drawing words dt old Write refused = absurd refused
explain_ladder drawing words dt old Memory refused = inl (Keeps-refl old)

pub explain_rows : (drawing : List ℕ) (words : List (List ℕ)) (dt : ℕ) (old : Option (List ℕ)) (ds : List Declaration) (networks : List Diagram) (fault : TextCommandFault)
    → IsLadderOfDrawing drawing ds networks → RefusesSet ds words fault → Explains drawing words dt old old fault
explain_rows drawing words dt old ds networks (Text fault) ladder refused = absurd refused
explain_rows drawing words dt old ds networks (Word fault) ladder refused = (record { declarations = ds; networks = networks; ladder = ladder; refused = refused.0; first = refused.1 }, Keeps-refl old)
explain_rows drawing words dt old ds networks Write ladder refused = absurd refused
explain_rows drawing words dt old ds networks Memory ladder refused = inl (Keeps-refl old)

explain_scans : (drawing : List ℕ) (words : List (List ℕ)) (dt : ℕ) (old new : Option (List ℕ)) (asked : Asked drawing words) (found : SendFault)
    → StopsScans asked.declarations asked.networks dt (without_restarts asked.rows) (scans_of asked.rows) found old new → Explains drawing words dt old new (sending_fault found)
explain_scans drawing words dt old new asked sending.Write written = (asked, written)
explain_scans drawing words dt old new asked sending.Memory written = inr (asked, written)

-- the scans of the ladder that was asked for
asked_of : (drawing : List ℕ) (words : List (List ℕ)) (ds : List Declaration) (networks : List Diagram) (rows : List SeriesValue) → IsLadderOfDrawing drawing ds networks → SpellSettings ds words rows → Asked drawing words
asked_of drawing words ds networks rows ladder read = record { declarations = ds; networks = networks; ladder = ladder; rows = rows; read = read }

pub all_written : (drawing : List ℕ) (words : List (List ℕ)) (dt : ℕ) (old new : Option (List ℕ)) (ds : List Declaration) (networks : List Diagram) (rows : List SeriesValue)
    → IsLadderOfDrawing drawing ds networks → SpellSettings ds words rows → WritesScans ds networks dt (without_restarts rows) (scans_of rows) old new → WritesAll drawing words dt old new
unfolding asked_of
all_written drawing words dt old new ds networks rows ladder read written = (asked_of drawing words ds networks rows ladder read, written)

pub part_written : {T : Type 0} (drawing : List ℕ) (words : List (List ℕ)) (dt : ℕ) (old new : Option (List ℕ)) (ds : List Declaration) (networks : List Diagram) (rows : List SeriesValue) (found : SendFault) (r : Result T TextCommandFault)
    → IsErrAnd r (λ fault. fault ≡ sending_fault found) → IsLadderOfDrawing drawing ds networks → SpellSettings ds words rows → StopsScans ds networks dt (without_restarts rows) (scans_of rows) found old new → IfErr r (Explains drawing words dt old new)
unfolding asked_of
part_written drawing words dt old new ds networks rows found r is ladder read written =
    kept_fault (sending_fault found) (Explains drawing words dt old new) r is (explain_scans drawing words dt old new (asked_of drawing words ds networks rows ladder read) found written)
