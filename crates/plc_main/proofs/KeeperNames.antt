-- The names of keepers, and of journals, so far.
use Rattle.std.proofs.Common.{◌≡◌, ℕ, ◌+◌, ◌<◌, ◌++◌, List, [], ◌∷◌, length, map, take, get_or, string_bytes, ap, ap₂, sym, ◌∙◌}
use Rattle.std.specs.Borrow.{Bor}
use Rattle.std.specs.Option.{option_map}
use Rattle.std.proofs.lemmas.List.{map_push, map_more}
use Rattle.std.proofs.lemmas.Option.{get_or_from_slice_get}
use Rattle.lists.specs.Items.{items_or_none}
use Rattle.lists.proofs.Places.{element_at}
use Rattle.plant.specs.PlantValue.{PlantValue, ResourceValue}
use Rattle.text_lines.specs.LineParts.{resource_text}
use Rattle.text_commands.specs.Rows.{texts}
use Rattle.audit.specs.declared.journal_file.JournalFile.{JournalFile}
use Rattle.plc_main.specs.AuditCommand.{AreNamed}

-- one more keeper has the name of the next resource
pub keepers_more : {K : Type 0} (name : K → List ℕ) (plant : PlantValue) (keepers : List K) (n : ℕ) (keeper : K) → map name keepers ≡ map (λ (r : ResourceValue). r.name) (take n plant.resources)
    → n < length plant.resources → name keeper ≡ resource_text plant n → map name (keepers ++ keeper ∷ []) ≡ map (λ (r : ResourceValue). r.name) (take (n + 1) plant.resources)
keepers_more name plant keepers n keeper so_far within named =
    let found = element_at plant.resources n within in
    let own : name keeper ≡ found.0.name = named ∙ ap (λ o. items_or_none (option_map (λ (r : ResourceValue). r.name) o)) found.1 in
    map_push name keepers keeper
    ∙ ap₂ (λ (ns : List (List ℕ)) (n : List ℕ). ns ++ n ∷ []) so_far (own ∙ ap (λ (r : ResourceValue). r.name) (sym (get_or_from_slice_get plant.resources n found.0 found.0 found.1)))
    ∙ sym (map_more (λ (r : ResourceValue). r.name) plant.resources n found.0 within)

-- one more journal has the next name
pub journals_more : (files : List JournalFile) (names : List (Bor (List ℕ))) (n : ℕ) (file : JournalFile) (name : Bor (List ℕ)) → AreNamed files (texts (take n names)) → n < length names
    → string_bytes file.name ≡ (get_or names n name).now → AreNamed (files ++ file ∷ []) (texts (take (n + 1) names))
journals_more files names n file name so_far within named =
    map_push (λ (f : JournalFile). string_bytes f.name) files file
    ∙ ap₂ (λ (ns : List (List ℕ)) (n : List ℕ). ns ++ n ∷ []) so_far named
    ∙ sym (map_more (λ (w : Bor (List ℕ)). w.now) names n name within)
