-- A step that stands for two does what both do.
use Rattle.std.proofs.Common.{◌≡◌, ℕ, zero, suc, ◌+◌, ◌<◌, List, [], ◌∷◌, ◌++◌, Bool, ◌&&◌, All, append_assoc, false, true, set, slice_set, arith, refl, sym, ap, ◌∙◌, subst}
use Rattle.std.proofs.lemmas.List.{append-nil, set-get_or}
use Rattle.std.proofs.lemmas.List.Elements.{All-nil, All-cons, All-head, All-tail}
use Rattle.scan_steps.specs.declared.bound_box.BoundBox.{BoundBox}
use Rattle.scan_steps.specs.declared.slot.Slot.{Slot}
use Rattle.scan_steps.specs.declared.step.Step.{Step}
use Rattle.scan_steps.specs.declared.step.Step.TheVariants as step
use Rattle.scan_steps.specs.declared.bound_contact.VariableContact.{VariableContact}
use Rattle.scan_steps.specs.Conducting.{bit_at, contact_conducts, contact_memory}
use Rattle.scan_steps.specs.Values.{is_true}
use Rattle.scan_steps.specs.Slots.{variable_at}
use Rattle.scan_steps.specs.Steps.Passing.{IsStepIn, behind_all, is_conducting, after_contact, after_rung}
use Rattle.scan_steps.specs.Steps.Contacts.{contact_of, first_of, second_of, in_row, plain_kind, rows_over}
use Rattle.power_flow.specs.Steps.Fused.{contacts_in, single, singles}
use Rattle.scan_steps.specs.Steps.Passing.{Pass, IsObeyed, ArePassed, read_rows, read_memories}

-- one more step
pub singles_push : (xs : List Step) (s : Step) → singles (xs ++ s ∷ []) ≡ singles xs ++ single s
singles_push [] s = append-nil (single s)
singles_push (x ∷ xs) s = ap (λ rest. single x ++ rest) (singles_push xs s) ∙ sym (append_assoc (single x) (singles xs) (single s))

-- one more contact of a rung
contacts_push : (row : ℕ) (xs : List VariableContact) (v : VariableContact) → contacts_in row (xs ++ v ∷ []) ≡ contacts_in row xs ++ step.Contact (in_row row v) ∷ []
contacts_push row [] v = refl
contacts_push row (x ∷ xs) v = ap (λ l. step.Contact (in_row row x) ∷ l) (contacts_push row xs v)

pub contacts_more : (row : ℕ) (xs : List VariableContact) (v : VariableContact) (s : Step) (steps : List Step) → contacts_in row xs ≡ singles steps → s ≡ step.Contact (contact_of v) → v.row ≡ row
    → contacts_in row (xs ++ v ∷ []) ≡ singles (steps ++ s ∷ [])
contacts_more row xs v s steps are is same =
    contacts_push row xs v ∙ ap (λ l. l ++ step.Contact (in_row row v) ∷ []) are
    ∙ ap (λ r. singles steps ++ step.Contact (in_row r v) ∷ []) (sym same)
    ∙ ap (λ x. singles steps ++ single x) (sym is) ∙ sym (singles_push steps s)

-- the rail, the contacts and the coil of a rung
rung_stands : (row coil : ℕ) (contacts : List VariableContact) (between : List Step) → contacts_in row contacts ≡ singles between
    → single (step.Rung row coil contacts) ≡ singles (step.Rail row ∷ (between ++ step.Coil row coil ∷ []))
rung_stands row coil contacts between are =
    ap (λ l. step.Rail row ∷ l) (ap (λ l. l ++ step.Coil row coil ∷ []) are ∙ sym (singles_push between (step.Coil row coil)))

pub rung_is : (steps behind between : List Step) (first last : Step) (row other coil : ℕ) (contacts : List VariableContact) → steps ≡ first ∷ behind → behind ≡ between ++ last ∷ [] → first ≡ step.Rail row
    → last ≡ step.Coil other coil → other ≡ row → contacts_in row contacts ≡ singles between → single (step.Rung row coil contacts) ≡ singles steps
rung_is steps behind between first last row other coil contacts parts ends rail link same are =
    let whole : steps ≡ step.Rail row ∷ (between ++ step.Coil row coil ∷ []) =
    parts ∙ ap (λ s. s ∷ behind) rail ∙ ap (λ l. step.Rail row ∷ l) (ends ∙ ap (λ s. between ++ s ∷ []) (link ∙ ap (λ r. step.Coil r coil) same)) in
    rung_stands row coil contacts between are ∙ ap singles (sym whole)

-- a contact that keeps no memory conducts whatever a memory is, and changes none
plain_conducts : (negated on memory : Bool) → contact_conducts (plain_kind negated) on memory ≡ contact_conducts (plain_kind negated) on false
plain_conducts false on memory = refl
plain_conducts true on memory = refl

plain_kept : (negated on : Bool) (ms : List Bool) (k : ℕ) → set ms k (contact_memory (plain_kind negated) on (bit_at ms k)) ≡ ms
plain_kept false on ms k = set-get_or ms k false
plain_kept true on ms k = set-get_or ms k false

-- a row that was given a state goes on from it
set_again : (rows : List Bool) (row : ℕ) (on more : Bool) → set (set rows row on) row (bit_at (set rows row on) row && more) ≡ set rows row (on && more)
set_again [] row on more = refl
set_again (r ∷ rows) zero on more = refl
set_again (r ∷ rows) (suc row) on more = ap (λ l. r ∷ l) (set_again rows row on more)

-- the pass once a row is given a state
abbrev with_row : ℕ → Pass → Bool → Pass
with_row row a on = record a { rows = slice_set a.rows row on }

-- the pass once the coil has the state of its row
abbrev with_link : ℕ → ℕ → Pass → Pass
with_link row coil a = record a { links = slice_set a.links coil (bit_at a.rows row) }

-- one contact of a rung
one_behind : (slots : List Slot) (row : ℕ) (v : VariableContact) (a w : Pass) (on : Bool) → w ≡ with_row row a on
    → after_contact (in_row row v) slots w.rows w ≡ with_row row a (on && is_conducting slots v)
one_behind slots row v a w on is =
    let here = is_true (variable_at slots v.place) in
    let conducts = plain_conducts v.negated here (bit_at a.memories v.memory) in
    let rows = ap (λ c. set (set a.rows row on) row (bit_at (set a.rows row on) row && c)) conducts ∙ set_again a.rows row on (is_conducting slots v) in
    let memories = plain_kept v.negated here a.memories v.memory in
    ap (λ (x : Pass). after_contact (in_row row v) slots x.rows x) is
    ∙ ap (λ (l : List Bool). record a { rows = l; memories = read_memories (in_row row v) slots a.memories }) rows
    ∙ ap (λ (l : List Bool). record a { rows = slice_set a.rows row (on && is_conducting slots v); memories = l }) memories

module _ (boxes : List BoundBox) (slots : List Slot) (dt : ℕ) where
  -- what a rung leaves is what its steps leave
  rung_passed : (row coil : ℕ) (contacts : List VariableContact) (rest : List Step) (a w b : Pass) (on : Bool) → w ≡ with_row row a on
      → ArePassed boxes slots dt rest (with_link row coil (with_row row a (behind_all slots on contacts))) b
      → ArePassed boxes slots dt ((contacts_in row contacts ++ (step.Coil row coil ∷ [])) ++ rest) w b
  rung_passed row coil [] rest a w b on is p = (with_link row coil w, refl, subst (λ (x : Pass). ArePassed boxes slots dt rest (with_link row coil x) b) (sym is) p)
  rung_passed row coil (v ∷ contacts) rest a w b on is p =
      (after_contact (in_row row v) slots w.rows w, refl, rung_passed row coil contacts rest a (after_contact (in_row row v) slots w.rows w) b (on && is_conducting slots v) (one_behind slots row v a w on is) p)

  rung_back : (row coil : ℕ) (contacts : List VariableContact) (rest : List Step) (a w b : Pass) (on : Bool) → w ≡ with_row row a on
      → ArePassed boxes slots dt ((contacts_in row contacts ++ (step.Coil row coil ∷ [])) ++ rest) w b
      → ArePassed boxes slots dt rest (with_link row coil (with_row row a (behind_all slots on contacts))) b
  rung_back row coil [] rest a w b on is p = subst (λ (x : Pass). ArePassed boxes slots dt rest x b) (p.1 ∙ ap (with_link row coil) is) p.2
  rung_back row coil (v ∷ contacts) rest a w b on is p =
      rung_back row coil contacts rest a p.0 b (on && is_conducting slots v) (p.1 ∙ one_behind slots row v a w on is) p.2

  first_passed : (s : Step) (rest : List Step) (a b : Pass) → (mid : Pass) × IsObeyed boxes slots dt s a mid × ArePassed boxes slots dt rest mid b → ArePassed boxes slots dt (single s ++ rest) a b
  first_passed (step.Rail row) rest a b p = p
  first_passed (step.Off row) rest a b p = p
  first_passed (step.Upright first last) rest a b p = p
  first_passed (step.OffUpright row first last) rest a b p = (record a { rows = slice_set a.rows row false }, refl, p)
  first_passed (step.Down row) rest a b p = (record a { rows = slice_set a.rows (row + 1) false }, refl, p)
  first_passed (step.Up row) rest a b p = (record a { rows = slice_set a.rows row false }, refl, p)
  first_passed (step.Contact c) rest a b p = p
  first_passed (step.RailContact v) rest a b p = (record a { rows = slice_set a.rows v.row true }, refl, p)
  first_passed (step.Pair pair places) rest a b p =
      (record a { rows = read_rows (first_of pair places) slots a.rows a.memories; memories = read_memories (first_of pair places) slots a.memories }, refl, p)
  first_passed (step.JoinedPair pair places) rest a b p =
      let mid = p.1.0 in
      (mid, p.1.1, (record mid { rows = read_rows (first_of pair places) slots mid.rows mid.memories; memories = read_memories (first_of pair places) slots mid.memories }, refl, (p.0, p.1.2, p.2)))
  first_passed (step.PairOver row places) rest a b p =
      let mid = p.1.0 in
      let first = first_of (rows_over row) places in (
        record a { rows = slice_set a.rows (row + 1) false },
        refl,
        (mid, p.1.1, (record mid { rows = read_rows first slots mid.rows mid.memories; memories = read_memories first slots mid.memories }, refl, (p.0, p.1.2, p.2))),
      )
  first_passed (step.Rung row k contacts) rest a b p =
      (with_row row a true, refl, rung_passed row k contacts rest a (with_row row a true) b true refl (subst (λ (x : Pass). ArePassed boxes slots dt rest x b) p.1 p.2))
  first_passed (step.Coil row k) rest a b p = p
  first_passed (step.Box k) rest a b p = p
  first_passed (step.BoxCoil k row coil) rest a b p = (p.1.0, p.1.1, (p.0, p.1.2, p.2))

  first_back : (s : Step) (rest : List Step) (a b : Pass) → ArePassed boxes slots dt (single s ++ rest) a b → (mid : Pass) × IsObeyed boxes slots dt s a mid × ArePassed boxes slots dt rest mid b
  first_back (step.Rail row) rest a b p = p
  first_back (step.Off row) rest a b p = p
  first_back (step.Upright first last) rest a b p = p
  first_back (step.OffUpright row first last) rest a b p =
      let P : Pass → Type 0 = λ w. IsObeyed boxes slots dt (step.Upright first last) w p.2.0 in
      (p.2.0, subst P p.1 p.2.1, p.2.2)
  first_back (step.Down row) rest a b p =
      let P : Pass → Type 0 = λ w. IsObeyed boxes slots dt (step.Upright row (row + 1)) w p.2.0 in
      (p.2.0, subst P p.1 p.2.1, p.2.2)
  first_back (step.Up row) rest a b p =
      let P : Pass → Type 0 = λ w. IsObeyed boxes slots dt (step.Upright row (row + 1)) w p.2.0 in
      (p.2.0, subst P p.1 p.2.1, p.2.2)
  first_back (step.Contact c) rest a b p = p
  first_back (step.RailContact v) rest a b p =
      let read : Pass → Pass = λ w. record w { rows = read_rows (contact_of v) slots w.rows w.memories; memories = read_memories (contact_of v) slots w.memories } in
      (p.2.0, p.2.1 ∙ ap read p.1, p.2.2)
  first_back (step.Pair pair places) rest a b p =
      let second : Pass → Pass = λ w. record w { rows = read_rows (second_of pair places) slots w.rows w.memories; memories = read_memories (second_of pair places) slots w.memories } in
      (p.2.0, p.2.1 ∙ ap second p.1, p.2.2)
  first_back (step.JoinedPair pair places) rest a b p =
      let second : Pass → Pass = λ w. record w { rows = read_rows (second_of pair places) slots w.rows w.memories; memories = read_memories (second_of pair places) slots w.memories } in
      let read = p.2 in
      let later = read.2 in
      (later.0, (p.0, p.1, later.1 ∙ ap second read.1), later.2)
  first_back (step.PairOver row places) rest a b p =
      let second : Pass → Pass = λ w. record w { rows = read_rows (second_of (rows_over row) places) slots w.rows w.memories; memories = read_memories (second_of (rows_over row) places) slots w.memories } in
      let joined = p.2 in
      let read = joined.2 in
      let later = read.2 in
      let P : Pass → Type 0 = λ w. IsObeyed boxes slots dt (step.Upright row (row + 2)) w joined.0 in
      (later.0, (joined.0, subst P p.1 joined.1, later.1 ∙ ap second read.1), later.2)
  first_back (step.Rung row k contacts) rest a b p = (after_rung slots row k contacts a, refl, rung_back row k contacts rest a p.0 b true p.1 p.2)
  first_back (step.Coil row k) rest a b p = p
  first_back (step.Box k) rest a b p = p
  first_back (step.BoxCoil k row coil) rest a b p = (p.2.0, (p.0, p.1, p.2.1), p.2.2)

  singles_passed : (steps : List Step) (a b : Pass) → ArePassed boxes slots dt steps a b → ArePassed boxes slots dt (singles steps) a b
  singles_passed [] a b p = p
  singles_passed (s ∷ steps) a b p = first_passed s (singles steps) a b (p.0, p.1, singles_passed steps p.0 b p.2)

  singles_back : (steps : List Step) (a b : Pass) → ArePassed boxes slots dt (singles steps) a b → ArePassed boxes slots dt steps a b
  singles_back [] a b p = p
  singles_back (s ∷ steps) a b p = let parts = first_back s (singles steps) a b p in (parts.0, parts.1, singles_back steps parts.0 b parts.2)

  -- fewer steps do what the steps do that they stand for
  pub fewer_passed : (fewer steps : List Step) (a b : Pass) → singles fewer ≡ singles steps → ArePassed boxes slots dt fewer a b → ArePassed boxes slots dt steps a b
  fewer_passed fewer steps a b same p =
      let P : List Step → Type 0 = λ w. ArePassed boxes slots dt w a b in
      singles_back steps a b (subst P same (singles_passed fewer a b p))

module _ (rows memories coils boxes : ℕ) where
  abbrev In : Step → Type 0
  In s = IsStepIn rows memories coils boxes s

  contacts_first : (row coil : ℕ) (contacts : List VariableContact) (rest : List Step) → row < rows → coil < coils → All (λ (v : VariableContact). v.memory < memories) contacts → All In rest
      → All In ((contacts_in row contacts ++ (step.Coil row coil ∷ [])) ++ rest)
  contacts_first row coil [] rest low few all later = All-cons In (step.Coil row coil) rest (low, few) later
  contacts_first row coil (v ∷ contacts) rest low few all later =
      All-cons In (step.Contact (in_row row v)) ((contacts_in row contacts ++ (step.Coil row coil ∷ [])) ++ rest) (low, All-head (λ (x : VariableContact). x.memory < memories) v contacts all)
      (contacts_first row coil contacts rest low few (All-tail (λ (x : VariableContact). x.memory < memories) v contacts all) later)

  contacts_back : (row coil : ℕ) (contacts : List VariableContact) (rest : List Step) → All In ((contacts_in row contacts ++ (step.Coil row coil ∷ [])) ++ rest)
      → All (λ (v : VariableContact). v.memory < memories) contacts × (coil < coils) × All In rest
  contacts_back row coil [] rest h =
      let here = All-head In (step.Coil row coil) rest h in
      (All-nil (λ (v : VariableContact). v.memory < memories), here.1, All-tail In (step.Coil row coil) rest h)
  contacts_back row coil (v ∷ contacts) rest h =
      let more = (contacts_in row contacts ++ (step.Coil row coil ∷ [])) ++ rest in
      let here = All-head In (step.Contact (in_row row v)) more h in
      let later = contacts_back row coil contacts rest (All-tail In (step.Contact (in_row row v)) more h) in
      (All-cons (λ (x : VariableContact). x.memory < memories) v contacts here.1 later.0, later.1, later.2)

  first_in : (s : Step) (rest : List Step) → In s → All In rest → All In (single s ++ rest)
  first_in (step.Rail row) rest here later = All-cons In (step.Rail row) rest here later
  first_in (step.Off row) rest here later = All-cons In (step.Off row) rest here later
  first_in (step.Upright first last) rest here later = All-cons In (step.Upright first last) rest here later
  first_in (step.OffUpright row first last) rest here later =
      All-cons In (step.Off row) (step.Upright first last ∷ rest) here.0 (All-cons In (step.Upright first last) rest here.1 later)
  first_in (step.Down row) rest here later =
      All-cons In (step.Off (row + 1)) (step.Upright row (row + 1) ∷ rest) here (All-cons In (step.Upright row (row + 1)) rest here later)
  first_in (step.Up row) rest here later =
      All-cons In (step.Off row) (step.Upright row (row + 1) ∷ rest) (omega (arith, here)) (All-cons In (step.Upright row (row + 1)) rest here later)
  first_in (step.Contact c) rest here later = All-cons In (step.Contact c) rest here later
  first_in (step.RailContact v) rest here later =
      All-cons In (step.Rail v.row) (step.Contact (contact_of v) ∷ rest) here.0 (All-cons In (step.Contact (contact_of v)) rest here later)
  first_in (step.Pair pair places) rest here later =
      All-cons In (step.Contact (first_of pair places)) (step.Contact (second_of pair places) ∷ rest) (here.0, here.1) (All-cons In (step.Contact (second_of pair places)) rest (here.2, here.3) later)
  first_in (step.JoinedPair pair places) rest here later =
      let two = All-cons In (step.Contact (second_of pair places)) rest (here.2, here.3) later in
      let one = All-cons In (step.Contact (first_of pair places)) (step.Contact (second_of pair places) ∷ rest) (here.0, here.1) two in
      All-cons In (step.Upright pair.first pair.second) (step.Contact (first_of pair places) ∷ step.Contact (second_of pair places) ∷ rest) here.2 one
  first_in (step.PairOver row places) rest here later =
      let first = step.Contact (first_of (rows_over row) places) in
      let second = step.Contact (second_of (rows_over row) places) in
      let two = All-cons In second rest (here.0, here.1) later in
      let one = All-cons In first (second ∷ rest) (omega (arith, here.0), omega (arith, here.1)) two in
      let join = All-cons In (step.Upright row (row + 2)) (first ∷ second ∷ rest) here.0 one in
      All-cons In (step.Off (row + 1)) (step.Upright row (row + 2) ∷ first ∷ second ∷ rest) (omega (arith, here.0)) join
  first_in (step.Rung row k contacts) rest here later =
      All-cons In (step.Rail row) ((contacts_in row contacts ++ (step.Coil row k ∷ [])) ++ rest) here.0 (contacts_first row k contacts rest here.0 here.2 here.1 later)
  first_in (step.Coil row k) rest here later = All-cons In (step.Coil row k) rest here later
  first_in (step.Box k) rest here later = All-cons In (step.Box k) rest here later
  first_in (step.BoxCoil k row coil) rest here later =
      All-cons In (step.Box k) (step.Coil row coil ∷ rest) here.0 (All-cons In (step.Coil row coil) rest (here.1, here.2) later)

  here_in : (s : Step) (rest : List Step) → All In (single s ++ rest) → In s × All In rest
  here_in (step.Rail row) rest h = (All-head In (step.Rail row) rest h, All-tail In (step.Rail row) rest h)
  here_in (step.Off row) rest h = (All-head In (step.Off row) rest h, All-tail In (step.Off row) rest h)
  here_in (step.Upright first last) rest h = (All-head In (step.Upright first last) rest h, All-tail In (step.Upright first last) rest h)
  here_in (step.OffUpright row first last) rest h =
      let later = All-tail In (step.Off row) (step.Upright first last ∷ rest) h in
      ((All-head In (step.Off row) (step.Upright first last ∷ rest) h, All-head In (step.Upright first last) rest later), All-tail In (step.Upright first last) rest later)
  here_in (step.Down row) rest h =
      let later = All-tail In (step.Off (row + 1)) (step.Upright row (row + 1) ∷ rest) h in
      (All-head In (step.Upright row (row + 1)) rest later, All-tail In (step.Upright row (row + 1)) rest later)
  here_in (step.Up row) rest h =
      let later = All-tail In (step.Off row) (step.Upright row (row + 1) ∷ rest) h in
      (All-head In (step.Upright row (row + 1)) rest later, All-tail In (step.Upright row (row + 1)) rest later)
  here_in (step.Contact c) rest h = (All-head In (step.Contact c) rest h, All-tail In (step.Contact c) rest h)
  here_in (step.RailContact v) rest h =
      let later = All-tail In (step.Rail v.row) (step.Contact (contact_of v) ∷ rest) h in
      (All-head In (step.Contact (contact_of v)) rest later, All-tail In (step.Contact (contact_of v)) rest later)
  here_in (step.Pair pair places) rest h =
      let later = All-tail In (step.Contact (first_of pair places)) (step.Contact (second_of pair places) ∷ rest) h in
      let one = All-head In (step.Contact (first_of pair places)) (step.Contact (second_of pair places) ∷ rest) h in
      let two = All-head In (step.Contact (second_of pair places)) rest later in
      ((one.0, one.1, two.0, two.1), All-tail In (step.Contact (second_of pair places)) rest later)
  here_in (step.JoinedPair pair places) rest h =
      let contacts = All-tail In (step.Upright pair.first pair.second) (step.Contact (first_of pair places) ∷ step.Contact (second_of pair places) ∷ rest) h in
      let later = All-tail In (step.Contact (first_of pair places)) (step.Contact (second_of pair places) ∷ rest) contacts in
      let one = All-head In (step.Contact (first_of pair places)) (step.Contact (second_of pair places) ∷ rest) contacts in
      let two = All-head In (step.Contact (second_of pair places)) rest later in
      ((one.0, one.1, two.0, two.1), All-tail In (step.Contact (second_of pair places)) rest later)
  here_in (step.PairOver row places) rest h =
      let first = step.Contact (first_of (rows_over row) places) in
      let second = step.Contact (second_of (rows_over row) places) in
      let join = All-tail In (step.Off (row + 1)) (step.Upright row (row + 2) ∷ first ∷ second ∷ rest) h in
      let contacts = All-tail In (step.Upright row (row + 2)) (first ∷ second ∷ rest) join in
      let later = All-tail In first (second ∷ rest) contacts in
      let two = All-head In second rest later in
      ((two.0, two.1), All-tail In second rest later)
  here_in (step.Rung row k contacts) rest h =
      let more = (contacts_in row contacts ++ (step.Coil row k ∷ [])) ++ rest in
      let parts = contacts_back row k contacts rest (All-tail In (step.Rail row) more h) in
      ((All-head In (step.Rail row) more h, parts.0, parts.1), parts.2)
  here_in (step.Coil row k) rest h = (All-head In (step.Coil row k) rest h, All-tail In (step.Coil row k) rest h)
  here_in (step.Box k) rest h = (All-head In (step.Box k) rest h, All-tail In (step.Box k) rest h)
  here_in (step.BoxCoil k row coil) rest h =
      let later = All-tail In (step.Box k) (step.Coil row coil ∷ rest) h in
      let two = All-head In (step.Coil row coil) rest later in
      ((All-head In (step.Box k) (step.Coil row coil ∷ rest) h, two.0, two.1), All-tail In (step.Coil row coil) rest later)

  singles_in : (steps : List Step) → All In steps → All In (singles steps)
  singles_in [] h = h
  singles_in (s ∷ steps) h = first_in s (singles steps) (All-head In s steps h) (singles_in steps (All-tail In s steps h))

  back_in : (steps : List Step) → All In (singles steps) → All In steps
  back_in [] h = h
  back_in (s ∷ steps) h = let parts = here_in s (singles steps) h in All-cons In s steps parts.0 (back_in steps parts.1)

  -- the numbers of fewer steps stand for what those of the steps do
  pub fewer_in : (fewer steps : List Step) → singles fewer ≡ singles steps → All In steps → All In fewer
  fewer_in fewer steps same h =
      let P : List Step → Type 0 = λ w. All In w in
      back_in fewer (subst P (sym same) (singles_in steps h))
