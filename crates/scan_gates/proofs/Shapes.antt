-- What is declared, by the shapes of slots.
use Rattle.std.proofs.Common.{◌≡◌, ℕ, zero, suc, List, [], ◌∷◌, Bool, Some, length, slice_get, refl, sym, ap, ◌∙◌, subst, arith}
use Rattle.std.proofs.lemmas.List.{length-map}
use Rattle.lists.proofs.Places.{some_same}
use Rattle.declared_names.specs.declared.declarations.Declaration.{Declaration}
use Rattle.declared_names.specs.declared.declarations.Declared.{Declared}
use Rattle.declared_names.specs.declared.declarations.Declared.TheVariants.{Input, Output, Local, Instance}
use Rattle.block_gates.specs.declared.instance.EncodedInstance.{EncodedInstance}
use Rattle.block_gates.specs.declared.instance.EncodedInstance.TheVariants as block
use Rattle.block_gates.specs.Blocks.{state_at, type_of}
use Rattle.scan_steps.specs.Slots.{AreSlotsOf, IsSlotOf}
use Rattle.scan_steps.specs.declared.slot.Slot.{Slot}
use Rattle.scan_gates.specs.declared.encoded.EncodedSlot.{EncodedSlot}
use Rattle.scan_gates.specs.declared.encoded.EncodedSlot.TheVariants.{Variable, Block}
use Rattle.scan_gates.specs.declared.encoded.EncodedValue.TheVariants as encoded
use Rattle.scan_gates.specs.declared.shape.Shape.{Shape}
use Rattle.scan_gates.specs.declared.shape.Shape.TheVariants as shape
use Rattle.scan_gates.specs.Encoded.{slot_at, slots_at}
use Rattle.scan_gates.specs.States.{AreLike, IsLike, shape_of}

-- the shape of what is declared
abbrev declared_shape : Declared → Shape
declared_shape (Input k) = shape.Variable k
declared_shape (Output k) = shape.Variable k
declared_shape (Local k) = shape.Variable k
declared_shape (Instance b) = shape.Block b

block_is : (v : ℕ → Bool) (i : EncodedInstance) → (state_at v i).block ≡ type_of i
block_is v (block.SR q1) = refl
block_is v (block.RS q1) = refl
block_is v (block.CTU c) = refl
block_is v (block.CTD c) = refl
block_is v (block.CTUD c) = refl
block_is v (block.TP t) = refl
block_is v (block.TON t) = refl
block_is v (block.TOF t) = refl

fits_shape : (v : ℕ → Bool) (d : Declared) (s : EncodedSlot) → IsSlotOf d (slot_at v s) → shape_of s ≡ declared_shape d
fits_shape v (Input k) (Variable (encoded.Bool s)) h = ap shape.Variable h
fits_shape v (Input k) (Variable (encoded.Int w)) h = ap shape.Variable h
fits_shape v (Input k) (Variable (encoded.Time w)) h = ap shape.Variable h
fits_shape v (Input k) (Block i) h = absurd h
fits_shape v (Output k) (Variable (encoded.Bool s)) h = ap shape.Variable h
fits_shape v (Output k) (Variable (encoded.Int w)) h = ap shape.Variable h
fits_shape v (Output k) (Variable (encoded.Time w)) h = ap shape.Variable h
fits_shape v (Output k) (Block i) h = absurd h
fits_shape v (Local k) (Variable (encoded.Bool s)) h = ap shape.Variable h
fits_shape v (Local k) (Variable (encoded.Int w)) h = ap shape.Variable h
fits_shape v (Local k) (Variable (encoded.Time w)) h = ap shape.Variable h
fits_shape v (Local k) (Block i) h = absurd h
fits_shape v (Instance b) (Variable (encoded.Bool s)) h = absurd h
fits_shape v (Instance b) (Variable (encoded.Int w)) h = absurd h
fits_shape v (Instance b) (Variable (encoded.Time w)) h = absurd h
fits_shape v (Instance b) (Block i) h = ap shape.Block (sym (block_is v i) ∙ h)

shape_fits : (v : ℕ → Bool) (d : Declared) (s : EncodedSlot) → shape_of s ≡ declared_shape d → IsSlotOf d (slot_at v s)
shape_fits v (Input k) (Variable (encoded.Bool s)) h = cc
shape_fits v (Input k) (Variable (encoded.Int w)) h = cc
shape_fits v (Input k) (Variable (encoded.Time w)) h = cc
shape_fits v (Input k) (Block i) h = cc
shape_fits v (Output k) (Variable (encoded.Bool s)) h = cc
shape_fits v (Output k) (Variable (encoded.Int w)) h = cc
shape_fits v (Output k) (Variable (encoded.Time w)) h = cc
shape_fits v (Output k) (Block i) h = cc
shape_fits v (Local k) (Variable (encoded.Bool s)) h = cc
shape_fits v (Local k) (Variable (encoded.Int w)) h = cc
shape_fits v (Local k) (Variable (encoded.Time w)) h = cc
shape_fits v (Local k) (Block i) h = cc
shape_fits v (Instance b) (Variable (encoded.Bool s)) h = cc
shape_fits v (Instance b) (Variable (encoded.Int w)) h = cc
shape_fits v (Instance b) (Variable (encoded.Time w)) h = cc
shape_fits v (Instance b) (Block i) h = block_is v i ∙ (let same : type_of i ≡ b = cc in same)

declared_same : (v w : ℕ → Bool) (a b : EncodedSlot) (d : Declared) → IsLike a b → IsSlotOf d (slot_at v a) → IsSlotOf d (slot_at w b)
declared_same v w a b d like h = shape_fits w d b (sym like ∙ fits_shape v d a h)

each_declared : (v w : ℕ → Bool) (xs ys : List EncodedSlot) (k : ℕ) (s : Slot) (d : Declared) → AreLike xs ys → slice_get (slots_at w ys) k ≡ Some s
    → ((t : Slot) → slice_get (slots_at v xs) k ≡ Some t → IsSlotOf d t) → IsSlotOf d s
each_declared v w [] [] k s d like is of = absurd cc
each_declared v w [] (b ∷ ys) k s d like is of = absurd like
each_declared v w (a ∷ xs) [] k s d like is of = absurd like
each_declared v w (a ∷ xs) (b ∷ ys) zero s d like is of = subst (λ t. IsSlotOf d t) (some_same is) (declared_same v w a b d like.0 (of (slot_at v a) refl))
each_declared v w (a ∷ xs) (b ∷ ys) (suc k) s d like is of = each_declared v w xs ys k s d like.1 is of

like_long : (xs ys : List EncodedSlot) → AreLike xs ys → length xs ≡ length ys
like_long [] [] like = refl
like_long [] (b ∷ ys) like = absurd like
like_long (a ∷ xs) [] like = absurd like
like_long (a ∷ xs) (b ∷ ys) like = ap suc (like_long xs ys like.1)

-- where one is what is declared, so is the other
pub slots_declared : (v w : ℕ → Bool) (ds : List Declaration) (xs ys : List EncodedSlot) → AreLike xs ys → AreSlotsOf ds (slots_at v xs) → AreSlotsOf ds (slots_at w ys)
slots_declared v w ds xs ys like are = record {
  long = length-map ys (slot_at w) ∙ sym (like_long xs ys like) ∙ sym (length-map xs (slot_at v)) ∙ are.long;
  each = λ k e s at is. each_declared v w xs ys k s e.declared like is (λ t there. are.each k e t at there);
}

-- the others, without the first
rest_fits : (d : Declaration) (ds : List Declaration) (s : Slot) (slots : List Slot) → AreSlotsOf (d ∷ ds) (s ∷ slots) → AreSlotsOf ds slots
rest_fits d ds s slots are = record {
  long = let all = are.long in omega arith;
  each = λ k e t at is. are.each (suc k) e t at is;
}

-- what is declared once is alike
pub declared_alike : (v w : ℕ → Bool) (ds : List Declaration) (xs ys : List EncodedSlot) → AreSlotsOf ds (slots_at v xs) → AreSlotsOf ds (slots_at w ys) → AreLike xs ys
declared_alike v w ds [] [] one two = tt
declared_alike v w ds [] (b ∷ ys) one two = absurd (let none = one.long in let some = two.long in omega arith)
declared_alike v w ds (a ∷ xs) [] one two = absurd (let some = one.long in let none = two.long in omega arith)
declared_alike v w [] (a ∷ xs) (b ∷ ys) one two = absurd (let some = one.long in omega arith)
declared_alike v w (d ∷ ds) (a ∷ xs) (b ∷ ys) one two = (
  fits_shape v d.declared a (one.each 0 d (slot_at v a) refl refl) ∙ sym (fits_shape w d.declared b (two.each 0 d (slot_at w b) refl refl)),
  declared_alike v w ds xs ys (rest_fits d ds (slot_at v a) (slots_at v xs) one) (rest_fits d ds (slot_at w b) (slots_at w ys) two),
)
