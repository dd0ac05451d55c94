-- Which files of a command are one.
use Rattle.std.specs.Prelude.{ℕ, ◌==◌, ◌&&◌, ◌||◌, Bool, false, List, [], ◌∷◌, Option, Some, None, bytes_eq, codes, nat_eq}
use Rattle.std.specs.List.{ends_with, find}
use Rattle.std.specs.Option.{is_some, option_map, option_or}
use Rattle.plc_main.specs.declared.clashes.Identity.{Identity}
use Rattle.plc_main.specs.declared.clashes.FileUse.{FileUse}

-- a file that is written, or the folder of state, is named by `-`, which names none
abbrev pub is_nameless : FileUse → Bool
is_nameless file = is_some file.option && bytes_eq file.path.now (codes "-")

-- one device, one number, and one name
abbrev pub is_same : Identity → Identity → Bool
is_same first second =
    first.device == second.device && first.number == second.number && bytes_eq first.name.now second.name.now

-- both are known, and the same
abbrev pub are_known_as_one : Option Identity → Option Identity → Bool
are_known_as_one None second = false
are_known_as_one (Some first) None = false
are_known_as_one (Some first) (Some second) = is_same first second

abbrev pub are_one : FileUse → FileUse → Bool
are_one first second = are_known_as_one first.identity second.identity

-- a text ends in another one
abbrev pub ends_in : List ℕ → List ℕ → Bool
ends_in text end = ends_with nat_eq text end

-- so end the names of the files that keep a resource's incarnation and retained variables, its lock's, and that of its
-- temporary file
abbrev pub bears_state_name : List ℕ → Bool
bears_state_name name =
    ends_in name (codes ".inc") || ends_in name (codes ".ret") || ends_in name (codes ".lock") || ends_in name (codes ".tmp")

-- a place in a folder, under the name of a file of state
abbrev pub keeps : Identity → Identity → Bool
keeps folder place =
    (folder.device == place.device && folder.number == place.number && bytes_eq folder.name.now [])
    && bears_state_name place.name.now

-- both are known, and the first is a folder with that place
abbrev pub are_of_state : Option Identity → Option Identity → Bool
are_of_state None place = false
are_of_state (Some folder) None = false
are_of_state (Some folder) (Some place) = keeps folder place

-- the first is a folder, and the second is written there under the name of a file of state
abbrev pub is_of_state : FileUse → FileUse → Bool
is_of_state first second = are_of_state first.identity second.place

-- Two files clash where they are one, and it is written; or where the first is a folder, and the second is written there under
-- the name of a file of state.
abbrev pub clash : FileUse → FileUse → Bool
clash first second = (are_one first second && (is_some first.option || is_some second.option)) || is_of_state first second

-- the first file that clashes with a later one, and that one
abbrev pub first_clash : List FileUse → Option (FileUse × FileUse)
first_clash [] = None
first_clash (file ∷ others) = option_or (option_map (λ other. (file, other)) (find (clash file) others)) (first_clash others)
