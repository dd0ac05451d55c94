-- Memories of elements that remember nothing stay OFF.
use Rattle.std.proofs.Common.{◌≡◌, ℕ, zero, suc, ◌+◌, ◌++◌, List, [], ◌∷◌, Bool, true, false, Option, Some, None, length, map, take, drop, replicate, sum_by, refl, sym, ap, ◌∙◌, subst, arith}
use Rattle.std.specs.List.{enumerate_from}
use Rattle.std.proofs.lemmas.List.{length-append, length-map, take-append-drop}
use Rattle.std.proofs.lemmas.List.Sums.{sum_by-cons}
use Rattle.drawings.specs.declared.coil.CoilKind.{CoilKind}
use Rattle.drawings.specs.declared.coil.CoilKind.TheVariants as coil
use Rattle.drawings.specs.declared.contact.ContactKind.{ContactKind}
use Rattle.drawings.specs.declared.contact.ContactKind.TheVariants as contact
use Rattle.network.specs.Links.{Diagram}
use Rattle.network.specs.declared.element.Element.{Element}
use Rattle.network.specs.declared.element.Element.TheVariants.{Wire, Join, Upright, Contact, Coil, Box}
use Rattle.declared_names.specs.declared.declarations.Declaration.{Declaration}
use Rattle.scan_steps.specs.Conducting.{bit_at, contact_memory}
use Rattle.scan_steps.specs.Values.{is_true}
use Rattle.scan_steps.specs.declared.slot.Slot.{Slot}
use Rattle.power_flow.specs.Meaning.{Moment, NetworkMeaning, coil_memory, moment, next_memory}
use Rattle.power_flow.specs.Scan.{ScanMeaning}
use Rattle.power_flow.specs.Values.{value_of}
use Rattle.verifying.specs.Runs.{SetupValue, ScansWith, opened, opened_by, restarts_in}
use Rattle.ladder_systems.specs.Remembering.{is_edge_coil, is_edge_contact, marked, memory_marks, remembers}
use Rattle.ladder_systems.specs.Steps.States.{AreQuiet}

pub marked-map : {A B : Type 0} (f : A → B) (marks : List Bool) (xs : List A) → map f (marked marks xs) ≡ marked marks (map f xs)
marked-map f [] xs = refl
marked-map f (mark ∷ marks) [] = refl
marked-map f (true ∷ marks) (x ∷ xs) = ap (λ l. f x ∷ l) (marked-map f marks xs)
marked-map f (false ∷ marks) (x ∷ xs) = marked-map f marks xs

-- where those that are marked are the same, all are
pub quiet_same : (marks a b : List Bool) → AreQuiet marks a → AreQuiet marks b → marked marks a ≡ marked marks b → a ≡ b
quiet_same [] [] [] one two is = refl
quiet_same [] [] (y ∷ b) one two is = absurd two
quiet_same [] (x ∷ a) b one two is = absurd one
quiet_same (mark ∷ marks) [] b one two is = absurd one
quiet_same (mark ∷ marks) (x ∷ a) [] one two is = absurd two
quiet_same (true ∷ marks) (x ∷ a) (y ∷ b) one two is =
    let first : x ≡ y = cc in
    let rest : a ≡ b = quiet_same marks a b one two cc in
    ap (λ z. z ∷ a) first ∙ ap (λ l. y ∷ l) rest
quiet_same (false ∷ marks) (x ∷ a) (y ∷ b) one two is =
    let rest : a ≡ b = quiet_same marks a b one.1 two.1 is in
    ap (λ z. z ∷ a) (one.0 ∙ sym two.0) ∙ ap (λ l. y ∷ l) rest

pub quiet_off : (marks : List Bool) → AreQuiet marks (replicate (length marks) false)
quiet_off [] = tt
quiet_off (true ∷ marks) = quiet_off marks
quiet_off (false ∷ marks) = (refl, quiet_off marks)

pub quiet_append : (m n a b : List Bool) → AreQuiet m a → AreQuiet n b → AreQuiet (m ++ n) (a ++ b)
quiet_append [] n [] b one two = two
quiet_append [] n (x ∷ a) b one two = absurd one
quiet_append (mark ∷ m) n [] b one two = absurd one
quiet_append (true ∷ m) n (x ∷ a) b one two = quiet_append m n a b one two
quiet_append (false ∷ m) n (x ∷ a) b one two = (one.0, quiet_append m n a b one.1 two)

quiet_split : (m n c : List Bool) → AreQuiet (m ++ n) c → AreQuiet m (take (length m) c) × AreQuiet n (drop (length m) c)
quiet_split [] n c is = (tt, is)
quiet_split (mark ∷ m) n [] is = absurd is
quiet_split (true ∷ m) n (x ∷ c) is = let rest = quiet_split m n c is in (rest.0, rest.1)
quiet_split (false ∷ m) n (x ∷ c) is = let rest = quiet_split m n c is.1 in ((is.0, rest.0), rest.1)

-- a contact and a coil
contact_quiet : (kind : ContactKind) (marks ms new : List Bool) (on memory b : Bool) → memory ≡ b → AreQuiet (is_edge_contact kind ∷ marks) (b ∷ ms)
    → (AreQuiet marks ms → AreQuiet marks new) → AreQuiet (is_edge_contact kind ∷ marks) (contact_memory kind on memory ∷ new)
contact_quiet contact.Plain marks ms new on memory b same is rest = (same ∙ is.0, rest is.1)
contact_quiet contact.Negated marks ms new on memory b same is rest = (same ∙ is.0, rest is.1)
contact_quiet contact.Rise marks ms new on memory b same is rest = rest is
contact_quiet contact.Fall marks ms new on memory b same is rest = rest is

coil_quiet : (kind : CoilKind) (marks ms new : List Bool) (link memory b : Bool) → memory ≡ b → AreQuiet (is_edge_coil kind ∷ marks) (b ∷ ms)
    → (AreQuiet marks ms → AreQuiet marks new) → AreQuiet (is_edge_coil kind ∷ marks) (coil_memory kind link memory ∷ new)
coil_quiet coil.Plain marks ms new link memory b same is rest = (same ∙ is.0, rest is.1)
coil_quiet coil.Negated marks ms new link memory b same is rest = (same ∙ is.0, rest is.1)
coil_quiet coil.Set marks ms new link memory b same is rest = (same ∙ is.0, rest is.1)
coil_quiet coil.Reset marks ms new link memory b same is rest = (same ∙ is.0, rest is.1)
coil_quiet coil.Rise marks ms new link memory b same is rest = rest is
coil_quiet coil.Fall marks ms new link memory b same is rest = rest is

element_quiet : (ds : List Declaration) (old : Moment) (links : List Bool) (k : ℕ) (e : Element) (marks ms new : List Bool) (b : Bool) → bit_at old.memories k ≡ b
    → AreQuiet (remembers e ∷ marks) (b ∷ ms) → (AreQuiet marks ms → AreQuiet marks new) → AreQuiet (remembers e ∷ marks) (next_memory ds old links k e ∷ new)
element_quiet ds old links k (Wire at) marks ms new b same is rest = (same ∙ is.0, rest is.1)
element_quiet ds old links k (Join at) marks ms new b same is rest = (same ∙ is.0, rest is.1)
element_quiet ds old links k (Upright at) marks ms new b same is rest = (same ∙ is.0, rest is.1)
element_quiet ds old links k (Contact c) marks ms new b same is rest =
    contact_quiet c.kind marks ms new (is_true (value_of ds old.slots c.name)) (bit_at old.memories k) b same is rest
element_quiet ds old links k (Coil c) marks ms new b same is rest = coil_quiet c.kind marks ms new (bit_at links k) (bit_at old.memories k) b same is rest
element_quiet ds old links k (Box b') marks ms new b same is rest = (same ∙ is.0, rest is.1)

-- what stands at a place of a list, and behind it
at_place : (l : List Bool) (k : ℕ) (b : Bool) (ms : List Bool) → b ∷ ms ≡ drop k l → (bit_at l k ≡ b) × (ms ≡ drop (suc k) l)
at_place [] zero b ms is = absurd cc
at_place [] (suc k) b ms is = absurd cc
at_place (x ∷ l) zero b ms is = (cc, cc)
at_place (x ∷ l) (suc k) b ms is = at_place l k b ms is

elements_quiet : (ds : List Declaration) (old : Moment) (links : List Bool) (elements : List Element) (k : ℕ) (ms : List Bool) → ms ≡ drop k old.memories
    → AreQuiet (map remembers elements) ms → AreQuiet (map remembers elements) (map (λ (e : ℕ × Element). next_memory ds old links e.0 e.1) (enumerate_from k elements))
elements_quiet ds old links [] k ms is quiet = tt
elements_quiet ds old links (e ∷ elements) k [] is quiet = absurd quiet
elements_quiet ds old links (e ∷ elements) k (b ∷ ms) is quiet =
    let here = at_place old.memories k b ms is in
    element_quiet ds old links k e (map remembers elements) ms _ b here.0 quiet (λ rest.
    let next : suc k ≡ k + 1 = omega arith in
    elements_quiet ds old links elements (k + 1) ms (here.1 ∙ ap (λ j. drop j old.memories) next) rest)

network_quiet : (ds : List Declaration) (d : Diagram) (dt : ℕ) (old new : Moment) → NetworkMeaning ds d dt old new → AreQuiet (map remembers d.elements) old.memories
    → AreQuiet (map remembers d.elements) new.memories
network_quiet ds d dt old new means quiet =
    let Quiet : List Bool → Type 0 = λ l. AreQuiet (map remembers d.elements) l in
    subst Quiet (sym means.memories) (elements_quiet ds old means.links d.elements 0 old.memories refl quiet)

pub scan_quiet : (ds : List Declaration) (dt : ℕ) (networks : List Diagram) (slots slots' : List Slot) (ms ms' : List Bool) → ScanMeaning ds dt networks slots ms slots' ms'
    → AreQuiet (memory_marks networks) ms → AreQuiet (memory_marks networks) ms'
scan_quiet ds dt [] slots slots' ms ms' scan quiet =
    let Quiet : List Bool → Type 0 = λ l. AreQuiet [] l in subst Quiet (sym scan.1) quiet
scan_quiet ds dt (d ∷ networks) slots slots' ms ms' (mid, means, rest) quiet =
    let n = length d.elements in
    let marks = map remembers d.elements in
    let long : length marks ≡ n = length-map d.elements remembers in
    let parts = quiet_split marks (memory_marks networks) ms quiet in
    let Here : ℕ → Type 0 = λ k. AreQuiet marks (take k ms) in
    let There : ℕ → Type 0 = λ k. AreQuiet (memory_marks networks) (drop k ms) in
    let here = network_quiet ds d dt (moment slots (take n ms)) (moment mid (take n ms')) means (subst Here long parts.0) in
    let there = scan_quiet ds dt networks mid slots' (drop n ms) (drop n ms') rest (subst There long parts.1) in
    let Quiet : List Bool → Type 0 = λ l. AreQuiet (marks ++ memory_marks networks) l in
    subst Quiet (take-append-drop n ms') (quiet_append marks (memory_marks networks) (take n ms') (drop n ms') here there)

-- a mark for each memory
pub marks_long : (networks : List Diagram) → length (memory_marks networks) ≡ sum_by (λ (d : Diagram). length d.elements) networks
marks_long [] = refl
marks_long (d ∷ networks) =
    length-append (map remembers d.elements) (memory_marks networks) ∙ ap (λ k. k + length (memory_marks networks)) (length-map d.elements remembers)
    ∙ ap (λ k. length d.elements + k) (marks_long networks) ∙ sym (sum_by-cons (λ (d : Diagram). length d.elements) d networks)

-- so it is after a restart
opened_quiet : (u : SetupValue) (o : Option (List ℕ)) (b : Bool) (s : Moment) → AreQuiet (memory_marks u.ladder.networks) s.memories
    → AreQuiet (memory_marks u.ladder.networks) (opened_by u o b s).memories
opened_quiet u None b s quiet = quiet
opened_quiet u (Some kept) true s quiet =
    let Quiet : ℕ → Type 0 = λ n. AreQuiet (memory_marks u.ladder.networks) (replicate n false) in
    subst Quiet (marks_long u.ladder.networks) (quiet_off (memory_marks u.ladder.networks))
opened_quiet u (Some kept) false s quiet = quiet

pub quiet_after : (u : SetupValue) (row : List Bool) (s t : Moment) → ScansWith u row s t → AreQuiet (memory_marks u.ladder.networks) s.memories
    → AreQuiet (memory_marks u.ladder.networks) t.memories
quiet_after u row s t scan quiet =
    scan_quiet u.ladder.declarations u.dt u.ladder.networks _ t.slots (opened u row s).memories t.memories scan.scan
    (opened_quiet u u.restarts (restarts_in (length u.free) row) s quiet)
