-- What is known only grows. The crates above cite it.
use Rattle.std.specs.Prelude.{◌≡◌, ℕ, ◌++◌, List, [], Option, Some, None, take}
use Rattle.std.proofs.Common.{sym, ap, ◌∙◌, subst, append_assoc, append-nil}
use Rattle.std.specs.Io.KnownBytes.{Appends, Keeps}
use Rattle.text_lines.specs.Sending.{SendsPart}
use Rattle.live_node.specs.Syncing.{Grows}

-- nothing more
pub grows_refl : (a : Option (List ℕ)) → Grows a a
grows_refl None = tt
grows_refl (Some x) = ([], sym (append-nil x))

-- more and more
pub grows_trans : (a b c : Option (List ℕ)) → Grows a b → Grows b c → Grows a c
grows_trans None b c p q = tt
grows_trans (Some x) None c p q = absurd p
grows_trans (Some x) (Some y) None p q = absurd q
grows_trans (Some x) (Some y) (Some z) p q = (p.0 ++ q.0, q.1 ∙ ap (λ l. l ++ q.0) p.1 ∙ append_assoc x p.0 q.0)

-- what is appended
pub appends_grow : (a b : Option (List ℕ)) (bs : List ℕ) → Appends a b bs → Grows a b
appends_grow None b bs h = tt
appends_grow (Some x) None bs h = absurd h
appends_grow (Some x) (Some y) bs h = (bs, h)

pub keeps_grow : (a b : Option (List ℕ)) → Keeps a b → Grows a b
keeps_grow None b h = tt
keeps_grow (Some x) None h = absurd h
keeps_grow (Some x) (Some y) h = ([], h ∙ sym (append-nil x))

pub part_grows : (text : List ℕ) (a b : Option (List ℕ)) → SendsPart text a b → Grows a b
part_grows text a b h = appends_grow a b (take h.0 text) h.1

-- what is all on the disk still is
pub all_synced : (synced noted later : Option (List ℕ)) → synced ≡ noted → Grows synced later → Grows noted later
all_synced synced noted later is h = subst (λ a. Grows a later) is h

pub synced_same : (noted synced : Option (List ℕ)) → synced ≡ noted → Grows noted synced
synced_same noted synced is = subst (Grows noted) (sym is) (grows_refl noted)

-- nothing was noted
pub kept_none : (a b : Option (List ℕ)) → Appends a b [] → Keeps a b
kept_none None b h = tt
kept_none (Some x) None h = absurd h
kept_none (Some x) (Some y) h = h ∙ append-nil x
