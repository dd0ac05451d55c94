-- Why a further file goes on from none that is given.
use Rattle.std.specs.Prelude.{ℕ, ◌++◌, ◌==◌, Bool, List, [], ◌∷◌, Option, Some, None, bytes_eq, codes, nat_lt, slice_get, if◌then◌else◌}
use Rattle.std.specs.Borrow.{Bor}
use Rattle.std.specs.Fmt.{decimal}
use Rattle.std.specs.List.{position}
use Rattle.journal_rows.specs.ContinuesLine.{begins_with, digest_of}
use Rattle.journal_rows.specs.declared.loose_files.LooseCause.{LooseCause}
use Rattle.journal_rows.specs.declared.loose_files.LooseCause.TheVariants.{Again, Behind, Missing}
use Rattle.journal_rows.specs.declared.loose_files.LooseFile.{LooseFile}

-- the texts of files, in the order in which they are given
abbrev pub Texts : Type 0
Texts = List (Bor (List ℕ))

-- what stands behind the first blank of a text
abbrev pub behind_blank : List ℕ → List ℕ
behind_blank [] = []
behind_blank (c ∷ text) = if c == 32 then text else behind_blank text

-- the digest of a text, as the first line of a file that goes on from it tells it
abbrev pub digest_word : List ℕ → List ℕ
digest_word text = decimal (digest_of text) ++ codes " "

-- a further file tells of this text as that of the file before it: by the digest, which stands behind two blanks
abbrev pub tells_of : List ℕ → List ℕ → Bool
tells_of text before = begins_with (digest_word before) (behind_blank (behind_blank text))

-- the first of the files with this text
abbrev pub first_alike : Texts → List ℕ → Option ℕ
first_alike texts text = position (λ t. bytes_eq t.now text) texts

-- the first of the files of which this text tells
abbrev pub first_told : Texts → List ℕ → Option ℕ
first_told texts text = position (λ t. tells_of text t.now) texts

-- a file goes on from the one of which it tells, if one is given
abbrev pub cause_by_told : Option ℕ → LooseCause
cause_by_told None = Missing
cause_by_told (Some k) = Behind k

-- a file whose text an earlier one has is that one once more
abbrev pub cause_by : Option ℕ → Option ℕ → ℕ → LooseCause
cause_by None told file = cause_by_told told
cause_by (Some k) told file = if nat_lt k file then Again k else cause_by_told told

-- why a file is loose, by its text
abbrev pub cause_in : Texts → ℕ → Option (Bor (List ℕ)) → LooseCause
cause_in texts file None = Missing
cause_in texts file (Some text) = cause_by (first_alike texts text.now) (first_told texts text.now) file

-- why the file at this place is loose
abbrev pub cause_of : Texts → ℕ → LooseCause
cause_of texts file = cause_in texts file (slice_get texts file)

-- a loose file with its cause
abbrev pub loose_file : Texts → ℕ → LooseFile
loose_file texts k = record { file = k; cause = cause_of texts k }
