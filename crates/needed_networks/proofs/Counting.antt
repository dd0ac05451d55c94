-- What a block makes of a count that is beyond its limit.
use Rattle.std.proofs.Common.{◌≡◌, ℕ, ℤ, pos, Bool, true, false, refl, sym, ap, ◌∙◌, subst, arith}
use Rattle.std.proofs.lemmas.Int.{ints}
use Rattle.std.specs.Prelude.{if◌then◌else◌, int_le}
use Rattle.std_blocks.specs.declared.block_state.BlockState.{BlockState}
use Rattle.std_blocks.specs.declared.block_type.BlockType.{BlockType}
use Rattle.std_blocks.specs.declared.block_type.BlockType.TheVariants.{SR, RS, CTU, CTD, CTUD, TP, TON, TOF}
use Rattle.std_blocks.specs.declared.pins.PinsIn.{PinsIn}
use Rattle.std_blocks.specs.Blocks.{bit, rises, one_more, one_less, counted_up, counted_down, state_after, outputs_of}
use Rattle.scan_steps.specs.declared.slot.Instance.{Instance}
use Rattle.needed_networks.specs.declared.count_limit.CountLimit.{CountLimit}
use Rattle.needed_networks.specs.declared.count_limit.CountLimit.TheVariants.{Whole, UpTo, FromZero}
use Rattle.needed_networks.specs.Counts.{MayLimit, limited_count, limited_instance}
use Rattle.power_flow.specs.Meaning.{block_after}

-- PV is what the limit asks for
abbrev pub FitsPreset : CountLimit → ℤ → Type 0
FitsPreset Whole n = Unit {0}
FitsPreset (UpTo most) n = n ≡ most
FitsPreset FromZero n = Unit {0}

-- one more of a count, no more than the most
more_near : (most a b : ℤ) → limited_count (UpTo most) a ≡ limited_count (UpTo most) b → limited_count (UpTo most) (one_more a) ≡ limited_count (UpTo most) (one_more b)
more_near most a b near = grind (arith, ints)

-- one less of a count, no less than 0
less_near : (a b : ℤ) → limited_count FromZero a ≡ limited_count FromZero b → limited_count FromZero (one_less a) ≡ limited_count FromZero (one_less b)
less_near a b near = grind (arith, ints)

-- whether it has come to the most, or to 0
most_near : (most a b : ℤ) → limited_count (UpTo most) a ≡ limited_count (UpTo most) b → int_le most a ≡ int_le most b
most_near most a b near = grind (arith, ints)

zero_near : (a b : ℤ) → limited_count FromZero a ≡ limited_count FromZero b → int_le a (pos 0) ≡ int_le b (pos 0)
zero_near a b near = grind (arith, ints)

up : (reset rise : Bool) (count : ℤ) → ℤ
up reset rise count = if reset then pos 0 else (if rise then one_more count else count)

up_near : (most a b : ℤ) (reset rise : Bool) → limited_count (UpTo most) a ≡ limited_count (UpTo most) b → limited_count (UpTo most) (up reset rise a) ≡ limited_count (UpTo most) (up reset rise b)
unfolding up
up_near most a b true rise near = refl
up_near most a b false true near = more_near most a b near
up_near most a b false false near = near

down : (load fall : Bool) (preset count : ℤ) → ℤ
down load fall preset count = if load then preset else (if fall then one_less count else count)

down_near : (preset a b : ℤ) (load fall : Bool) → limited_count FromZero a ≡ limited_count FromZero b → limited_count FromZero (down load fall preset a) ≡ limited_count FromZero (down load fall preset b)
unfolding down
down_near preset a b true fall near = refl
down_near preset a b false true near = less_near a b near
down_near preset a b false false near = near

counted_up_near : (most : ℤ) (i j : Instance) (pins : PinsIn) → limited_instance (UpTo most) i ≡ limited_instance (UpTo most) j
    → limited_count (UpTo most) (counted_up i.state pins) ≡ limited_count (UpTo most) (counted_up j.state pins)
unfolding up
counted_up_near most i j pins near =
    let cu : i.state.last_cu ≡ j.state.last_cu = ap (λ (x : Instance). x.state.last_cu) near in
    up_near most i.state.count j.state.count (bit pins 1) (rises i.state.last_cu (bit pins 0)) (ap (λ (x : Instance). x.state.count) near)
    ∙ ap (λ last. limited_count (UpTo most) (up (bit pins 1) (rises last (bit pins 0)) j.state.count)) cu

counted_down_near : (i j : Instance) (pins : PinsIn) → limited_instance FromZero i ≡ limited_instance FromZero j
    → limited_count FromZero (counted_down i.state pins) ≡ limited_count FromZero (counted_down j.state pins)
unfolding down
counted_down_near i j pins near =
    let cd : i.state.last_cd ≡ j.state.last_cd = ap (λ (x : Instance). x.state.last_cd) near in
    down_near pins.int i.state.count j.state.count (bit pins 1) (rises i.state.last_cd (bit pins 0)) (ap (λ (x : Instance). x.state.count) near)
    ∙ ap (λ last. limited_count FromZero (down (bit pins 1) (rises last (bit pins 0)) pins.int j.state.count)) cd

-- a block of a type once it has made its step
typed_after : BlockType → Instance → PinsIn → ℕ → Instance
typed_after block i pins dt = record { state = state_after block i.state pins dt; outputs = outputs_of block (state_after block i.state pins dt) pins }

after_typed : (i : Instance) (pins : PinsIn) (dt : ℕ) (block : BlockType) → i.state.block ≡ block → block_after i pins dt ≡ typed_after block i pins dt
unfolding typed_after
after_typed i pins dt block is = ap (λ b. typed_after b i pins dt) is

up_after : (most : ℤ) (i j : Instance) (pins : PinsIn) (dt : ℕ) → limited_instance (UpTo most) i ≡ limited_instance (UpTo most) j → pins.int ≡ most
    → limited_instance (UpTo most) (typed_after CTU i pins dt) ≡ limited_instance (UpTo most) (typed_after CTU j pins dt)
unfolding typed_after
up_after most i j pins dt near preset =
    let block = ap (λ (x : Instance). x.state.block) near in
    let on = ap (λ (x : Instance). x.state.on) near in
    let last_in = ap (λ (x : Instance). x.state.last_in) near in
    let last_cd = ap (λ (x : Instance). x.state.last_cd) near in
    let elapsed = ap (λ (x : Instance). x.state.elapsed) near in
    let counted = counted_up_near most i j pins near in
    let q : int_le pins.int (counted_up i.state pins) ≡ int_le pins.int (counted_up j.state pins) = subst (λ n. int_le n (counted_up i.state pins) ≡ int_le n (counted_up j.state pins)) (sym preset) (most_near most (counted_up i.state pins) (counted_up j.state pins) counted) in
    cc

down_after : (i j : Instance) (pins : PinsIn) (dt : ℕ) → limited_instance FromZero i ≡ limited_instance FromZero j
    → limited_instance FromZero (typed_after CTD i pins dt) ≡ limited_instance FromZero (typed_after CTD j pins dt)
unfolding typed_after
down_after i j pins dt near =
    let block = ap (λ (x : Instance). x.state.block) near in
    let on = ap (λ (x : Instance). x.state.on) near in
    let last_in = ap (λ (x : Instance). x.state.last_in) near in
    let last_cu = ap (λ (x : Instance). x.state.last_cu) near in
    let elapsed = ap (λ (x : Instance). x.state.elapsed) near in
    let counted = counted_down_near i j pins near in
    let q = zero_near (counted_down i.state pins) (counted_down j.state pins) counted in
    cc

-- a step leaves the type
pub block_kept : (block : BlockType) (s : BlockState) (pins : PinsIn) (dt : ℕ) → (state_after block s pins dt).block ≡ s.block
block_kept SR s pins dt = refl
block_kept RS s pins dt = refl
block_kept CTU s pins dt = refl
block_kept CTD s pins dt = refl
block_kept CTUD s pins dt = refl
block_kept TP s pins dt = refl
block_kept TON s pins dt = refl
block_kept TOF s pins dt = refl

-- blocks that are the same as far as it matters make steps to such blocks
pub steps_near : (limit : CountLimit) (i j : Instance) (pins : PinsIn) (dt : ℕ) → limited_instance limit i ≡ limited_instance limit j → MayLimit limit i.state.block → FitsPreset limit pins.int
    → limited_instance limit (block_after i pins dt) ≡ limited_instance limit (block_after j pins dt)
steps_near Whole i j pins dt near may fits = ap (λ (x : Instance). block_after x pins dt) near
steps_near (UpTo most) i j pins dt near may fits =
    let other = sym (ap (λ (x : Instance). x.state.block) near) ∙ may in
    ap (limited_instance (UpTo most)) (after_typed i pins dt CTU may) ∙ up_after most i j pins dt near fits ∙ sym (ap (limited_instance (UpTo most)) (after_typed j pins dt CTU other))
steps_near FromZero i j pins dt near may fits =
    let other = sym (ap (λ (x : Instance). x.state.block) near) ∙ may in
    ap (limited_instance FromZero) (after_typed i pins dt CTD may) ∙ down_after i j pins dt near ∙ sym (ap (limited_instance FromZero) (after_typed j pins dt CTD other))
