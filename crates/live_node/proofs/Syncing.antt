-- What is known only grows.
use Rattle.std.proofs.Common.{◌≡◌, inl, inr, ℕ, List, Option, sym, subst}
use Rattle.keepers.specs.Keepers.{Telling, TellsNoMore}
use Rattle.live_node.specs.Syncing.{Grows, IsNotedFirst}
use Rattle.live_node.specs.Steps.Growing.{grows_trans, synced_same}

-- a keeper that isn't asked to keep keeps nothing new
pub same_first : {K : Type 0} (gives : K → Telling) (old new : K) (noted synced : Option (List ℕ)) → new ≡ old → IsNotedFirst (gives old) (gives new) noted synced
same_first gives old new noted synced same = inl (subst (λ k. TellsNoMore (gives old) (gives k)) (sym same) (λ task code answer h. h))

-- nor does one that is raised
pub raised_first : {K : Type 0} (gives : K → Telling) (old raised new : K) (noted synced : Option (List ℕ)) → TellsNoMore (gives old) (gives raised) → new ≡ raised → IsNotedFirst (gives old) (gives new) noted synced
raised_first gives old raised new noted synced tells same = inl (subst (λ k. TellsNoMore (gives old) (gives k)) (sym same) tells)

-- all is on the disk
pub synced_first : (before now : Telling) (noted synced : Option (List ℕ)) → synced ≡ noted → IsNotedFirst before now noted synced
synced_first before now noted synced all = inr (synced_same noted synced all)

-- it was asked later
pub asked_first : {K : Type 0} (gives : K → Telling) (old asked new : K) (noted synced : Option (List ℕ)) → asked ≡ old → IsNotedFirst (gives asked) (gives new) noted synced → IsNotedFirst (gives old) (gives new) noted synced
asked_first gives old asked new noted synced same h = subst (λ k. IsNotedFirst (gives k) (gives new) noted synced) same h

-- and more came to the disk
pub synced_later : {K : Type 0} (gives : K → Telling) (old mid new : K) (noted noted_new synced synced_new : Option (List ℕ)) → new ≡ mid → noted_new ≡ noted → Grows synced synced_new → IsNotedFirst (gives old) (gives mid) noted synced → IsNotedFirst (gives old) (gives new) noted_new synced_new
synced_later gives old mid new noted noted_new synced synced_new same is more (inl h) = inl (subst (λ k. TellsNoMore (gives old) (gives k)) (sym same) h)
synced_later gives old mid new noted noted_new synced synced_new same is more (inr h) = inr (subst (λ n. Grows n synced_new) (sym is) (grows_trans noted synced synced_new h more))
