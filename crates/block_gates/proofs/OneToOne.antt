-- The bits of a block, by what it keeps and shows.
use Rattle.std.proofs.Common.{◌≡◌, ℕ, suc, ◌+◌, ◌*◌, ◌^◌, ◌<◌, List, [], ◌∷◌, Bool, true, false, length, get_or, map, refl, sym, ap, ◌∙◌, arith}
use Rattle.std.specs.Int.{cast_unsigned, w16}
use Rattle.std.proofs.Math.Nat.{pow-suc}
use Rattle.std.proofs.lemmas.Int.{of_z-to_z}
use Rattle.std.proofs.lemmas.List.{length-map}
use Rattle.gates.specs.Signals.{signal_value}
use Rattle.gate_words.specs.declared.int_word.IntWord.{IntWord}
use Rattle.gate_words.specs.declared.time_word.TimeWord.{TimeWord}
use Rattle.gate_words.specs.Words.{number_of}
use Rattle.gate_words.specs.Values.{int_at, time_at}
use Rattle.std_blocks.specs.declared.block_state.BlockState.{BlockState}
use Rattle.std_blocks.specs.declared.pins.PinsOut.{PinsOut}
use Rattle.block_gates.specs.declared.instance.EncodedInstance.{EncodedInstance}
use Rattle.block_gates.specs.declared.instance.EncodedInstance.TheVariants as block
use Rattle.block_gates.specs.Blocks.{outputs_at, state_at, type_of}
use Rattle.block_gates.specs.Signals.{instance_signals}

-- steps on numbers alone
one_more : (m n : ℕ) → 1 + 2 * m ≡ 1 + 2 * n → m ≡ n
one_more m n e = omega (arith, e)

none_more : (m n : ℕ) → 0 + 2 * m ≡ 0 + 2 * n → m ≡ n
none_more m n e = omega (arith, e)

odd : (m n : ℕ) → 1 + 2 * m ≡ 0 + 2 * n → ⊥
odd m n e = omega (arith, e)

even : (m n : ℕ) → 0 + 2 * m ≡ 1 + 2 * n → ⊥
even m n e = omega (arith, e)

-- as many bits that make the same number are the same
same_bits : (a b : List Bool) → length a ≡ length b → number_of a ≡ number_of b → a ≡ b
same_bits [] [] long e = refl
same_bits [] (y ∷ b) long e = absurd (omega arith)
same_bits (x ∷ a) [] long e = absurd (omega arith)
same_bits (true ∷ a) (true ∷ b) long e =
    ap (λ l. true ∷ l) (same_bits a b (let less : length a ≡ length b = omega arith in less) (one_more (number_of a) (number_of b) e))
same_bits (true ∷ a) (false ∷ b) long e = absurd (odd (number_of a) (number_of b) e)
same_bits (false ∷ a) (true ∷ b) long e = absurd (even (number_of a) (number_of b) e)
same_bits (false ∷ a) (false ∷ b) long e =
    ap (λ l. false ∷ l) (same_bits a b (let less : length a ≡ length b = omega arith in less) (none_more (number_of a) (number_of b) e))

on_step : (m p q : ℕ) → m < p → q ≡ p * 2 → 1 + 2 * m < q
on_step m p q lt e = omega (arith, lt, e)

off_step : (m p q : ℕ) → m < p → q ≡ p * 2 → 0 + 2 * m < q
off_step m p q lt e = omega (arith, lt, e)

number_lt : (a : List Bool) → number_of a < 2 ^ length a
number_lt [] = let lt : 0 < 1 = omega arith in lt
number_lt (true ∷ a) = on_step (number_of a) (2 ^ length a) (2 ^ suc (length a)) (number_lt a) (pow-suc 2 (length a))
number_lt (false ∷ a) = off_step (number_of a) (2 ^ length a) (2 ^ suc (length a)) (number_lt a) (pow-suc 2 (length a))

-- times and INTs that are the same have the same bits
time_same : (v w : ℕ → Bool) (a b : TimeWord) → time_at v a ≡ time_at w b → map (signal_value v) a.bits ≡ map (signal_value w) b.bits
time_same v w a b e =
    same_bits (map (signal_value v) a.bits) (map (signal_value w) b.bits)
    (length-map a.bits (signal_value v) ∙ a.many ∙ sym b.many ∙ sym (length-map b.bits (signal_value w))) e

fits : (v : ℕ → Bool) (a : IntWord) → number_of (map (signal_value v) a.bits) < 65536
fits v a =
    let long = length-map a.bits (signal_value v) ∙ a.many in
    let is : 2 ^ length (map (signal_value v) a.bits) ≡ 65536 = ap (λ k. 2 ^ k) long in
    let lt = number_lt (map (signal_value v) a.bits) in omega (arith, lt, is)

int_same : (v w : ℕ → Bool) (a b : IntWord) → int_at v a ≡ int_at w b → map (signal_value v) a.bits ≡ map (signal_value w) b.bits
int_same v w a b e =
    let m = number_of (map (signal_value v) a.bits) in
    let n = number_of (map (signal_value w) b.bits) in
    same_bits (map (signal_value v) a.bits) (map (signal_value w) b.bits)
    (length-map a.bits (signal_value v) ∙ a.many ∙ sym b.many ∙ sym (length-map b.bits (signal_value w)))
    (sym (of_z-to_z w16 m (fits v a)) ∙ ap (cast_unsigned w16) e ∙ of_z-to_z w16 n (fits w b))

two_same : (a b p q : Bool) (xs ys : List Bool) → a ≡ b → p ≡ q → xs ≡ ys → (a ∷ p ∷ xs) ≡ (b ∷ q ∷ ys)
two_same a b p q xs ys one two three = ap (λ t. t ∷ p ∷ xs) one ∙ ap (λ t. b ∷ t ∷ xs) two ∙ ap (λ l. b ∷ q ∷ l) three

shown_first : (o p : PinsOut) → o ≡ p → get_or o.bits 0 false ≡ get_or p.bits 0 false
shown_first o p e = ap (λ (x : PinsOut). get_or x.bits 0 false) e

shown_second : (o p : PinsOut) → o ≡ p → get_or o.bits 1 false ≡ get_or p.bits 1 false
shown_second o p e = ap (λ (x : PinsOut). get_or x.bits 1 false) e

pub bits_same : (v w : ℕ → Bool) (i j : EncodedInstance) → type_of i ≡ type_of j → state_at v i ≡ state_at w j → outputs_at v i ≡ outputs_at w j
    → map (signal_value v) (instance_signals i) ≡ map (signal_value w) (instance_signals j)
bits_same v w (block.SR p) (block.SR q) t s o = ap (λ (x : BlockState). x.on ∷ []) s
bits_same v w (block.SR p) j t s o = cc
bits_same v w (block.RS p) (block.RS q) t s o = ap (λ (x : BlockState). x.on ∷ []) s
bits_same v w (block.RS p) j t s o = cc
bits_same v w (block.CTU c) (block.CTU d) t s o =
    two_same _ _ _ _ _ _ (ap (λ (x : BlockState). x.last_cu) s) (shown_first _ _ o) (int_same v w c.count d.count (ap (λ (x : BlockState). x.count) s))
bits_same v w (block.CTU c) j t s o = cc
bits_same v w (block.CTD c) (block.CTD d) t s o =
    two_same _ _ _ _ _ _ (ap (λ (x : BlockState). x.last_cd) s) (shown_first _ _ o) (int_same v w c.count d.count (ap (λ (x : BlockState). x.count) s))
bits_same v w (block.CTD c) j t s o = cc
bits_same v w (block.CTUD c) (block.CTUD d) t s o =
    two_same _ _ _ _ _ _ (ap (λ (x : BlockState). x.last_cu) s) (ap (λ (x : BlockState). x.last_cd) s)
    (two_same _ _ _ _ _ _ (shown_first _ _ o) (shown_second _ _ o) (int_same v w c.count d.count (ap (λ (x : BlockState). x.count) s)))
bits_same v w (block.CTUD c) j t s o = cc
bits_same v w (block.TP a) (block.TP b) t s o =
    two_same _ _ _ _ _ _ (ap (λ (x : BlockState). x.last_in) s) (ap (λ (x : BlockState). x.on) s)
    (time_same v w a.elapsed b.elapsed (ap (λ (x : BlockState). x.elapsed) s))
bits_same v w (block.TP a) j t s o = cc
bits_same v w (block.TON a) (block.TON b) t s o =
    two_same _ _ _ _ _ _ (ap (λ (x : BlockState). x.last_in) s) (ap (λ (x : BlockState). x.on) s)
    (time_same v w a.elapsed b.elapsed (ap (λ (x : BlockState). x.elapsed) s))
bits_same v w (block.TON a) j t s o = cc
bits_same v w (block.TOF a) (block.TOF b) t s o =
    two_same _ _ _ _ _ _ (ap (λ (x : BlockState). x.last_in) s) (ap (λ (x : BlockState). x.on) s)
    (time_same v w a.elapsed b.elapsed (ap (λ (x : BlockState). x.elapsed) s))
bits_same v w (block.TOF a) j t s o = cc
