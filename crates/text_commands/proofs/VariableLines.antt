-- A line grows by one variable after the other.
use Rattle.std.proofs.Common.{◌≡◌, ℕ, ◌+◌, ◌<◌, ◌++◌, List, [], ◌∷◌, Some, None, length, take, refl, sym, ap, ◌∙◌, append_assoc, arith, zero, suc, length-append, add-one}
use Rattle.std.specs.List.{join_with_byte}
use Rattle.std.specs.Prelude.{slice_get}
use Rattle.std_blocks.specs.declared.value.Value.{Value}
use Rattle.declared_names.specs.declared.declarations.Declaration.{Declaration}
use Rattle.scan_steps.specs.declared.slot.Slot.{Slot}
use Rattle.scan_steps.specs.declared.slot.Slot.TheVariants.{Variable, Block}
use Rattle.scan_steps.specs.Slots.{variable_at}
use Rattle.text_commands.specs.Lines.{item_text, items_of}
use Rattle.text_commands.specs.Steps.Joining.{ready}

-- each item has a character
abbrev pub AreFilled : List (List ℕ) → Type 0
AreFilled [] = Unit {0}
AreFilled (x ∷ xs) = (0 < length x) × AreFilled xs

item_filled : (name : List ℕ) (value : Value) → 0 < length (item_text name value)
item_filled [] value = omega arith
item_filled (c ∷ name) value = omega arith

pub items_filled : (ds : List Declaration) (slots : List Slot) → AreFilled (items_of ds slots)
items_filled [] slots = tt
items_filled (d ∷ ds) [] = tt
items_filled (d ∷ ds) (Variable value ∷ slots) = (item_filled d.name value, items_filled ds slots)
items_filled (d ∷ ds) (Block block ∷ slots) = items_filled ds slots

ready-filled : (line : List ℕ) → 0 < length line → ready line ≡ line ++ 32 ∷ []
ready-filled [] h = absurd (omega arith)
ready-filled (c ∷ line) h = refl

join_filled : (x : List ℕ) (xs : List (List ℕ)) → 0 < length x → 0 < length (join_with_byte 32 (x ∷ xs))
join_filled x [] h = h
join_filled x (y ∷ xs) h = simp length-append (omega arith)

pub join-push : (xs : List (List ℕ)) (x : List ℕ) → AreFilled xs → join_with_byte 32 (xs ++ x ∷ []) ≡ ready (join_with_byte 32 xs) ++ x
join-push [] x h = refl
join-push (y ∷ []) x h = rw (ready-filled y h.0, append_assoc) refl
join-push (y ∷ z ∷ xs) x h =
    let whole = join_filled y (z ∷ xs) h.0 in
    let rest = join_filled z xs h.1.0 in
    let more = join-push (z ∷ xs) x h.1 in
    rw (ready-filled (join_with_byte 32 (y ∷ z ∷ xs)) whole, append_assoc, append_assoc) (ap (λ l. y ++ 32 ∷ l) (more ∙ ap (λ l. l ++ x) (ready-filled (join_with_byte 32 (z ∷ xs)) rest) ∙ append_assoc (join_with_byte 32 (z ∷ xs)) (32 ∷ []) x))

items-more_suc : (ds : List Declaration) (slots : List Slot) (i : ℕ) (d : Declaration) (value : Value) → slice_get ds i ≡ Some d → variable_at slots i ≡ Some value
    → items_of (take (suc i) ds) slots ≡ items_of (take i ds) slots ++ item_text d.name value ∷ []
items-more_suc [] slots zero d value at is = cc
items-more_suc [] slots (suc i) d value at is = cc
items-more_suc (e ∷ ds) [] zero d value at is = cc
items-more_suc (e ∷ ds) [] (suc i) d value at is = cc
items-more_suc (e ∷ ds) (Variable v ∷ slots) zero d value at is = let same : e ≡ d = cc in let held : v ≡ value = cc in rw (same, held) refl
items-more_suc (e ∷ ds) (Block b ∷ slots) zero d value at is = cc
items-more_suc (e ∷ ds) (Variable v ∷ slots) (suc i) d value at is = ap (λ l. item_text e.name v ∷ l) (items-more_suc ds slots i d value at is)
items-more_suc (e ∷ ds) (Block b ∷ slots) (suc i) d value at is = items-more_suc ds slots i d value at is

items-same_suc : (ds : List Declaration) (slots : List Slot) (i : ℕ) → variable_at slots i ≡ None → items_of (take (suc i) ds) slots ≡ items_of (take i ds) slots
items-same_suc [] slots zero is = refl
items-same_suc [] slots (suc i) is = refl
items-same_suc (e ∷ ds) [] zero is = refl
items-same_suc (e ∷ ds) [] (suc i) is = refl
items-same_suc (e ∷ ds) (Variable v ∷ slots) zero is = cc
items-same_suc (e ∷ ds) (Block b ∷ slots) zero is = refl
items-same_suc (e ∷ ds) (Variable v ∷ slots) (suc i) is = ap (λ l. item_text e.name v ∷ l) (items-same_suc ds slots i is)
items-same_suc (e ∷ ds) (Block b ∷ slots) (suc i) is = items-same_suc ds slots i is

-- the line stays, where there is no variable
pub line-same : (ds : List Declaration) (slots : List Slot) (i : ℕ) (line : List ℕ) → variable_at slots i ≡ None
    → line ≡ join_with_byte 32 (items_of (take i ds) slots) → line ≡ join_with_byte 32 (items_of (take (i + 1) ds) slots)
line-same ds slots i line is e = rw (add-one, items-same_suc ds slots i is) e

-- the line with one more variable
pub line-more : (ds : List Declaration) (slots : List Slot) (i : ℕ) (d : Declaration) (value : Value) (line : List ℕ) → slice_get ds i ≡ Some d → variable_at slots i ≡ Some value
    → line ≡ join_with_byte 32 (items_of (take i ds) slots) → ready line ++ item_text d.name value ≡ join_with_byte 32 (items_of (take (i + 1) ds) slots)
line-more ds slots i d value line at is e = rw (add-one, items-more_suc ds slots i d value at is)
    (ap (λ l. ready l ++ item_text d.name value) e ∙ sym (join-push (items_of (take i ds) slots) (item_text d.name value) (items_filled (take i ds) slots)))
