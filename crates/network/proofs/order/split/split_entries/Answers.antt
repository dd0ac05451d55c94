use Rattle.std.proofs.Common.{◌≡◌, ◌∙◌, ◌+◌, ◌<◌, ℕ, List, Option, Some, None, IfSome, slice_get, get_or, length, map, ap, arith}
use Rattle.std.proofs.lemmas.Option.{slice_get-get_or}
use Rattle.std.proofs.lemmas.List.{length-map}
use Rattle.drawings.specs.Picture.{Picture}
use Rattle.network.specs.declared.listing.listed.Entry.{Entry}
use Rattle.network.specs.Steps.Listed.{element_of, stand_for}
use Rattle.network.specs.Steps.Ranks.{AreSplit, IsPut}
use Rattle.network.proofs.Basics.{get_map}
use Rattle.network.proofs.Ordered.Splitting.{split_none, split_put, put_map, put_long, empty_map}
use Rattle.network.proofs.order.split.split_entries.Goals as goal

-- one entry more stands in the part of its rank
one_more : (g : Picture) (entries : List Entry) (ranks : List (Option ℕ)) (count : ℕ) (parts new : List (List Entry)) (k : ℕ) (d : Entry) → k < length entries → k < length ranks
    → IsPut parts (get_or ranks k None) (get_or entries k d) new → AreSplit (stand_for g entries) ranks count (map (stand_for g) parts) k
    → AreSplit (stand_for g entries) ranks count (map (stand_for g) new) (k + 1)
one_more g entries ranks count parts new k d lt low put done =
    let e = get_or entries k d in
    let rank = get_or ranks k None in
    split_put (stand_for g entries) ranks count (map (stand_for g) parts) (map (stand_for g) new) k (element_of g e) rank
    (get_map (element_of g) entries k e (slice_get-get_or entries k d lt)) (slice_get-get_or ranks k None low) (put_map (element_of g) parts new rank e put) done

-- a rank is the number of a part
among : (ranks : List (Option ℕ)) (count k : ℕ) (rank : Option ℕ) → ((i m : ℕ) → slice_get ranks i ≡ Some (Some m) → m < count) → slice_get ranks k ≡ Some rank → IfSome rank (λ m. m < count)
among ranks count k None within at = tt
among ranks count k (Some m) within at = within k m at

pub put-requires : goal.put-requires
put-requires c =
    let ranks = c.args.ranks.now in
    let low : c.loop-k.k < length ranks = (let t = c.loop-k-test.true in let l = c.requires.long in omega arith) in
    rw c.loop-k.invariant.long (among ranks c.args.count c.loop-k.k (get_or ranks c.loop-k.k None) c.requires.within (slice_get-get_or ranks c.loop-k.k None low))

pub loop-k-init : goal.loop-k-init
loop-k-init c =
    let parts = c.in_ok-parts.parts.items in
    let long : length parts ≡ c.args.count = c.in_ok-parts.ensures.long ∙ ap length c.deref.ensures.value ∙ c.in_ok-sizes.ensures in
    record {
      long = long;
      split = λ g. split_none (stand_for g c.args.entries.now) c.args.ranks.now c.args.count (map (stand_for g) parts)
          (length-map parts (stand_for g) ∙ long) (empty_map (element_of g) parts c.in_ok-parts.ensures.empty);
    }

pub loop-k-preserved : goal.loop-k-preserved
loop-k-preserved c =
    let low : c.loop-k.k < length c.args.ranks.now = (let t = c.loop-k-test.true in let l = c.requires.long in omega arith) in
    record {
      long = put_long c.loop-k.parts.items c.put.new.parts.items _ _ c.in_ok-put.ensures ∙ c.loop-k.invariant.long;
      split = λ g. one_more g c.args.entries.now c.args.ranks.now c.args.count c.loop-k.parts.items c.put.new.parts.items c.loop-k.k _ c.loop-k-test.true low c.in_ok-put.ensures
          (c.loop-k.invariant.split g);
    }

pub returns : goal.returns
returns c = λ g.
    let long : length (stand_for g c.args.entries.now) ≡ length c.args.entries.now = length-map c.args.entries.now (element_of g) in
    let all : c.loop-k.k ≡ length (stand_for g c.args.entries.now) = omega (arith, long, c.loop-k-test.false, c.loop-k.auto) in
    rw (← all) (c.loop-k.invariant.split g)
