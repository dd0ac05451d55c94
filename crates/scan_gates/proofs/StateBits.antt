-- States by the values of their signals.
use Rattle.std.proofs.Common.{◌≡◌, ℕ, ◌+◌, ◌<◌, ◌++◌, List, [], ◌∷◌, Bool, true, false, cond, length, get_or, take, drop, refl, sym, ap, ◌∙◌, arith}
use Rattle.std.proofs.Math.Seq.{take-append_seam, drop-append_seam}
use Rattle.std.proofs.lemmas.List.{append_assoc, length-append, length-map, map-append, map_push, take_more}
use Rattle.gates.specs.declared.signal.Signal.{Signal}
use Rattle.gates.specs.Signals.{signal_value}
use Rattle.block_gates.specs.declared.instance.EncodedInstance.TheVariants as block
use Rattle.scan_gates.specs.declared.encoded.EncodedSlot.{EncodedSlot}
use Rattle.scan_gates.specs.declared.encoded.EncodedSlot.TheVariants.{Variable, Block}
use Rattle.scan_gates.specs.declared.encoded.EncodedValue.TheVariants as encoded
use Rattle.scan_gates.specs.Encoded.{bits_at, slot_at, slots_at}
use Rattle.scan_gates.specs.States.{AreLike, IsLike, shape_of, slot_of, slot_signals, state_signals, width_of}
use Rattle.scan_gates.specs.Steps.Pushing.{HasMore}

-- what stands at a name, by the values of its signals
pub slot_read : (v : ℕ → Bool) (s : EncodedSlot) → slot_at v s ≡ slot_of (shape_of s) (bits_at v (slot_signals s))
slot_read v (Variable (encoded.Bool s)) = refl
slot_read v (Variable (encoded.Int word)) = refl
slot_read v (Variable (encoded.Time word)) = refl
slot_read v (Block (block.SR q1)) = refl
slot_read v (Block (block.RS q1)) = refl
slot_read v (Block (block.CTU c)) = refl
slot_read v (Block (block.CTD c)) = refl
slot_read v (Block (block.CTUD c)) = refl
slot_read v (Block (block.TP t)) = refl
slot_read v (Block (block.TON t)) = refl
slot_read v (Block (block.TOF t)) = refl

-- it has as many signals as its shape says
pub so_many : (s : EncodedSlot) → length (slot_signals s) ≡ width_of (shape_of s)
so_many (Variable (encoded.Bool s)) = refl
so_many (Variable (encoded.Int word)) = word.many
so_many (Variable (encoded.Time word)) = word.many
so_many (Block (block.SR q1)) = refl
so_many (Block (block.RS q1)) = refl
so_many (Block (block.CTU c)) = let e = c.count.many in omega (arith, e)
so_many (Block (block.CTD c)) = let e = c.count.many in omega (arith, e)
so_many (Block (block.CTUD c)) = let e = c.count.many in omega (arith, e)
so_many (Block (block.TP t)) = let e = t.elapsed.many in omega (arith, e)
so_many (Block (block.TON t)) = let e = t.elapsed.many in omega (arith, e)
so_many (Block (block.TOF t)) = let e = t.elapsed.many in omega (arith, e)

pub like_many : (a b : EncodedSlot) → IsLike a b → length (slot_signals a) ≡ length (slot_signals b)
like_many a b like = so_many a ∙ ap width_of like ∙ sym (so_many b)

-- where signals of both have the same values, the same stands there
pub slot_same : (v w : ℕ → Bool) (a b : EncodedSlot) → IsLike a b → bits_at v (slot_signals a) ≡ bits_at w (slot_signals b) → slot_at v a ≡ slot_at w b
slot_same v w a b like bits =
    slot_read v a ∙ ap (λ x. slot_of x (bits_at v (slot_signals a))) like ∙ ap (slot_of (shape_of b)) bits ∙ sym (slot_read w b)

-- as long a beginning of one list is the same
apart : (a b c d : List Bool) → length a ≡ length c → a ++ b ≡ c ++ d → (a ≡ c) × (b ≡ d)
apart a b c d long is = (
  sym (take-append_seam a b) ∙ ap (take (length a)) is ∙ ap (λ n. take n (c ++ d)) long ∙ take-append_seam c d,
  sym (drop-append_seam a b) ∙ ap (drop (length a)) is ∙ ap (λ n. drop n (c ++ d)) long ∙ drop-append_seam c d,
)

-- so it is with states
pub state_same : (v w : ℕ → Bool) (xs ys : List EncodedSlot) (x y : List Signal) → AreLike xs ys
    → bits_at v (state_signals xs x) ≡ bits_at w (state_signals ys y) → (slots_at v xs ≡ slots_at w ys) × (bits_at v x ≡ bits_at w y)
state_same v w [] [] x y like is = (refl, is)
state_same v w [] (b ∷ ys) x y like is = absurd like
state_same v w (a ∷ xs) [] x y like is = absurd like
state_same v w (a ∷ xs) (b ∷ ys) x y (here, there) is =
    let joined : bits_at v (slot_signals a) ++ bits_at v (state_signals xs x) ≡ bits_at w (slot_signals b) ++ bits_at w (state_signals ys y) =
    sym (map-append (signal_value v) (slot_signals a) (state_signals xs x)) ∙ is ∙ map-append (signal_value w) (slot_signals b) (state_signals ys y) in
    let long = length-map (slot_signals a) (signal_value v) ∙ like_many a b here ∙ sym (length-map (slot_signals b) (signal_value w)) in
    let both = apart (bits_at v (slot_signals a)) (bits_at v (state_signals xs x)) (bits_at w (slot_signals b)) (bits_at w (state_signals ys y)) long joined in
    let rest = state_same v w xs ys x y there both.1 in
    (ap (λ s. s ∷ slots_at v xs) (slot_same v w a b here both.0) ∙ ap (λ l. slot_at w b ∷ l) rest.0, rest.1)

-- none more, and one more
pub more_none : (a : List Signal) → HasMore a a 0
more_none a = record { more = []; is = sym (nil a); many = refl }
  where
    nil : (l : List Signal) → l ++ [] ≡ l
    nil [] = refl
    nil (x ∷ l) = ap (λ m. x ∷ m) (nil l)

pub more_first : (a b : List Signal) (s : Signal) → b ≡ a ++ s ∷ [] → HasMore a b 1
more_first a b s is = record { more = s ∷ []; is = is; many = refl }

pub more_twice : (a b c : List Signal) (m n : ℕ) → HasMore a b m → HasMore b c n → HasMore a c (m + n)
more_twice a b c m n one two = record {
  more = one.more ++ two.more;
  is = two.is ∙ ap (λ l. l ++ two.more) one.is ∙ append_assoc a one.more two.more;
  many = length-append one.more two.more ∙ ap (λ k. k + length two.more) one.many ∙ ap (λ k. m + k) two.many;
}

-- those that came are those behind the others
pub more_behind : (a b : List Signal) (n : ℕ) (more : HasMore a b n) → drop (length a) b ≡ more.more
more_behind a b n more = ap (drop (length a)) more.is ∙ drop-append_seam a more.more

-- one more signal of both
chosen_by : (v : ℕ → Bool) (on : Bool) (new a b : List Signal) (s : Signal) (x y : Signal) → bits_at v new ≡ cond on (bits_at v a) (bits_at v b)
    → signal_value v s ≡ cond on (signal_value v x) (signal_value v y)
    → bits_at v new ++ signal_value v s ∷ [] ≡ cond on (bits_at v a ++ signal_value v x ∷ []) (bits_at v b ++ signal_value v y ∷ [])
chosen_by v true new a b s x y e f = ap (λ l. l ++ signal_value v s ∷ []) e ∙ ap (λ t. bits_at v a ++ t ∷ []) f
chosen_by v false new a b s x y e f = ap (λ l. l ++ signal_value v s ∷ []) e ∙ ap (λ t. bits_at v b ++ t ∷ []) f

pub chosen_more : (v : ℕ → Bool) (on : Bool) (first second new : List Signal) (k : ℕ) (d e s : Signal) → k < length first → k < length second
    → bits_at v new ≡ cond on (bits_at v (take k first)) (bits_at v (take k second))
    → signal_value v s ≡ cond on (signal_value v (get_or first k d)) (signal_value v (get_or second k e))
    → bits_at v (new ++ s ∷ []) ≡ cond on (bits_at v (take (k + 1) first)) (bits_at v (take (k + 1) second))
chosen_more v on first second new k d e s lt less was is =
    map_push (signal_value v) new s
    ∙ chosen_by v on new (take k first) (take k second) s (get_or first k d) (get_or second k e) was is
    ∙ ap (λ l. cond on l (bits_at v (take k second) ++ signal_value v (get_or second k e) ∷ []))
    (sym (map_push (signal_value v) (take k first) (get_or first k d)) ∙ ap (bits_at v) (sym (take_more first k d lt)))
    ∙ ap (λ l. cond on (bits_at v (take (k + 1) first)) l)
    (sym (map_push (signal_value v) (take k second) (get_or second k e)) ∙ ap (bits_at v) (sym (take_more second k e less)))

-- a slot by what is chosen of the signals of two
slot_by : (v : ℕ → Bool) (on : Bool) (a b new : EncodedSlot) → IsLike a b → IsLike a new
    → bits_at v (slot_signals new) ≡ cond on (bits_at v (slot_signals a)) (bits_at v (slot_signals b)) → slot_at v new ≡ cond on (slot_at v a) (slot_at v b)
slot_by v true a b new like same is = slot_same v v new a (sym same) is
slot_by v false a b new like same is = slot_same v v new b (sym same ∙ like) is

pub slot_chosen : (v : ℕ → Bool) (on : Bool) (a b new : EncodedSlot) (one other all : List Signal) → IsLike a b → IsLike a new → slot_signals new ≡ all
    → one ≡ slot_signals a → other ≡ slot_signals b → bits_at v all ≡ cond on (bits_at v one) (bits_at v other) → slot_at v new ≡ cond on (slot_at v a) (slot_at v b)
slot_chosen v on a b new one other all like same of_new of_a of_b is =
    slot_by v on a b new like same
    (ap (bits_at v) of_new ∙ is ∙ ap (λ l. cond on (bits_at v l) (bits_at v other)) of_a ∙ ap (λ l. cond on (bits_at v (slot_signals a)) (bits_at v l)) of_b)
