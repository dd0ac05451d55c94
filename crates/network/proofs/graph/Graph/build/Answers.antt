use Rattle.std.proofs.Common.{◌∙◌, Vec, Global, length, sym}
use Rattle.drawings.specs.declared.place.Place.{Place}
use Rattle.network.specs.declared.networks.Network.{Network}
use Rattle.network.specs.declared.order.ranks.Ranks.{Ranks}
use Rattle.network.specs.Networks.{AreLeftRails, IsUnattachedAt, IsTooTallAt, IsTwiceAt, HoldsNowhere}
use Rattle.network.specs.Steps.Listing.{AreElementsOf}
use Rattle.network.specs.Steps.Ranks.{AreRanks, AreSplit, ArePlaces, IsUnmetAt, IsTallAt}
use Rattle.network.specs.Steps.Twice.{IsTwiceIn}
use Rattle.network.proofs.WholeGraph.{ok_of, first_such, none_such, unmet_is, is_unmet, tall_is, is_tall_at, twice_is, is_twice_in, networks_are, sound_graph}
use Rattle.network.proofs.graph.Graph.build.Goals as goal

pub ranks_of-requires : goal.ranks_of-requires
ranks_of-requires c =
    let g = c.args.drawing.now in
    let are : AreElementsOf g c.in_ok-elements.elements = ok_of (AreElementsOf g) _ c.elements_of.result c.map_err-2.result c.in_ok-elements.elements c.map_err-2.ensures.cases c.map_err-2.ensures.variant c.in_ok-elements.was c.elements_of.ensures in
    let ra : AreLeftRails g c.in_ok-rails.rails.items = ok_of (λ (v : Vec Place Global). AreLeftRails g v.items) _ c.rails_of.result c.map_err.result c.in_ok-rails.rails c.map_err.ensures.cases c.map_err.ensures.variant c.in_ok-rails.was c.rails_of.ensures in
    record { sound = c.rows-rows.ensures.sound; elements = are; rails = rw c.deref.ensures.value ra }

pub returns-in-Some-clause-fault : goal.returns-in-Some-clause-fault
returns-in-Some-clause-fault c = λ other.
    let g = c.args.drawing.now in
    let sound = c.rows-rows.ensures.sound in
    let es = c.in_ok-elements.elements in
    let are : AreElementsOf g es = ok_of (AreElementsOf g) _ c.elements_of.result c.map_err-2.result c.in_ok-elements.elements c.map_err-2.ensures.cases c.map_err-2.ensures.variant c.in_ok-elements.was c.elements_of.ensures in
    let rails = c.in_ok-rails.rails.items in
    let ra : AreLeftRails g rails = ok_of (λ (v : Vec Place Global). AreLeftRails g v.items) _ c.rails_of.result c.map_err.result c.in_ok-rails.rails c.map_err.ensures.cases c.map_err.ensures.variant c.in_ok-rails.was c.rails_of.ensures in
    let ranks_clause = c.ranks_of.ensures in
    let count = c.in_ok-ranks.ranks.count in
    let ranks = c.in_ok-ranks.ranks.ranks.items in
    let rk : AreRanks g es count ranks = ok_of (λ (r : Ranks). AreRanks g es r.count r.ranks.items) _ c.ranks_of.result c.map_err-3.result c.in_ok-ranks.ranks
    c.map_err-3.ensures.cases c.map_err-3.ensures.variant c.in_ok-ranks.was ranks_clause in
    let unmet_clause = rw c.deref-2.ensures.value at c.unmet_places.ensures in
    let unmet = c.in_ok-unmet.unmet.items in
    let pl : ArePlaces (IsUnmetAt es ranks (length es)) unmet = ok_of (λ (v : Vec Place Global). ArePlaces (IsUnmetAt es ranks (length es)) v.items) _ c.unmet_places.result c.map_err-4.result c.in_ok-unmet.unmet
    c.map_err-4.ensures.cases c.map_err-4.ensures.variant c.in_ok-unmet.was unmet_clause in
    let first = rw c.deref-3.ensures.value at c.in-Some.ensures in
    let found = rw c.first_line-first_line.ensures at c.fault_at.ensures.found in
    (c.in-Some.place, rw c.fault_at.ensures.kind (first_such (IsUnattachedAt g) (IsUnmetAt es ranks (length es)) unmet (is_unmet g sound es are count ranks rk) (unmet_is g sound es are count ranks rk) pl c.in-Some.place first), found)

pub returns-in-Some-first_of-clause-fault : goal.returns-in-Some-first_of-clause-fault
returns-in-Some-first_of-clause-fault c = λ other.
    let g = c.args.drawing.now in
    let sound = c.rows-rows.ensures.sound in
    let es = c.in_ok-elements.elements in
    let are : AreElementsOf g es = ok_of (AreElementsOf g) _ c.elements_of.result c.map_err-2.result c.in_ok-elements.elements c.map_err-2.ensures.cases c.map_err-2.ensures.variant c.in_ok-elements.was c.elements_of.ensures in
    let rails = c.in_ok-rails.rails.items in
    let ra : AreLeftRails g rails = ok_of (λ (v : Vec Place Global). AreLeftRails g v.items) _ c.rails_of.result c.map_err.result c.in_ok-rails.rails c.map_err.ensures.cases c.map_err.ensures.variant c.in_ok-rails.was c.rails_of.ensures in
    let ranks_clause = c.ranks_of.ensures in
    let count = c.in_ok-ranks.ranks.count in
    let ranks = c.in_ok-ranks.ranks.ranks.items in
    let rk : AreRanks g es count ranks = ok_of (λ (r : Ranks). AreRanks g es r.count r.ranks.items) _ c.ranks_of.result c.map_err-3.result c.in_ok-ranks.ranks
    c.map_err-3.ensures.cases c.map_err-3.ensures.variant c.in_ok-ranks.was ranks_clause in
    let unmet_clause = rw c.deref-2.ensures.value at c.unmet_places.ensures in
    let unmet = c.in_ok-unmet.unmet.items in
    let pl : ArePlaces (IsUnmetAt es ranks (length es)) unmet = ok_of (λ (v : Vec Place Global). ArePlaces (IsUnmetAt es ranks (length es)) v.items) _ c.unmet_places.result c.map_err-4.result c.in_ok-unmet.unmet
    c.map_err-4.ensures.cases c.map_err-4.ensures.variant c.in_ok-unmet.was unmet_clause in
    let attached : HoldsNowhere (IsUnattachedAt g) = none_such (IsUnattachedAt g) (IsUnmetAt es ranks (length es)) unmet (is_unmet g sound es are count ranks rk) pl (sym c.deref-3.ensures.value ∙ c.in_default.ensures) in
    let split_clause = rw c.deref-4.ensures.value at c.split.ensures in
    let networks = c.in_ok-networks.networks.items in
    let sp : AreSplit es ranks count networks (length es) = ok_of (λ (v : Vec Network Global). AreSplit es ranks count v.items (length es)) _ c.split.result c.map_err-5.result c.in_ok-networks.networks
    c.map_err-5.ensures.cases c.map_err-5.ensures.variant c.in_ok-networks.was split_clause in
    let tall_clause = rw c.deref-5.ensures.value at c.tall_places.ensures in
    let tall = c.in_ok-tall.tall.items in
    let tp : ArePlaces (IsTallAt networks (length networks)) tall = ok_of (λ (v : Vec Place Global). ArePlaces (IsTallAt networks (length networks)) v.items) _ c.tall_places.result c.map_err-6.result c.in_ok-tall.tall
    c.map_err-6.ensures.cases c.map_err-6.ensures.variant c.in_ok-tall.was tall_clause in
    let first = rw c.deref-6.ensures.value at c.in-Some-first_of.ensures in
    let found = rw c.first_line-first_line.ensures at c.fault_at-in-Some-first_of.ensures.found in (
      c.in-Some-first_of.place,
      rw c.fault_at-in-Some-first_of.ensures.kind (
        attached,
        first_such (IsTooTallAt g) (IsTallAt networks (length networks)) tall (is_tall_at g sound es are count ranks rk attached networks sp)
            (tall_is g sound es are count ranks rk attached networks sp) tp c.in-Some-first_of.place first,
      ),
      found,
    )

pub returns-in-Some-first_of-2-clause-fault : goal.returns-in-Some-first_of-2-clause-fault
returns-in-Some-first_of-2-clause-fault c = λ other.
    let g = c.args.drawing.now in
    let sound = c.rows-rows.ensures.sound in
    let es = c.in_ok-elements.elements in
    let are : AreElementsOf g es = ok_of (AreElementsOf g) _ c.elements_of.result c.map_err-2.result c.in_ok-elements.elements c.map_err-2.ensures.cases c.map_err-2.ensures.variant c.in_ok-elements.was c.elements_of.ensures in
    let rails = c.in_ok-rails.rails.items in
    let ra : AreLeftRails g rails = ok_of (λ (v : Vec Place Global). AreLeftRails g v.items) _ c.rails_of.result c.map_err.result c.in_ok-rails.rails c.map_err.ensures.cases c.map_err.ensures.variant c.in_ok-rails.was c.rails_of.ensures in
    let ranks_clause = c.ranks_of.ensures in
    let count = c.in_ok-ranks.ranks.count in
    let ranks = c.in_ok-ranks.ranks.ranks.items in
    let rk : AreRanks g es count ranks = ok_of (λ (r : Ranks). AreRanks g es r.count r.ranks.items) _ c.ranks_of.result c.map_err-3.result c.in_ok-ranks.ranks
    c.map_err-3.ensures.cases c.map_err-3.ensures.variant c.in_ok-ranks.was ranks_clause in
    let unmet_clause = rw c.deref-2.ensures.value at c.unmet_places.ensures in
    let unmet = c.in_ok-unmet.unmet.items in
    let pl : ArePlaces (IsUnmetAt es ranks (length es)) unmet = ok_of (λ (v : Vec Place Global). ArePlaces (IsUnmetAt es ranks (length es)) v.items) _ c.unmet_places.result c.map_err-4.result c.in_ok-unmet.unmet
    c.map_err-4.ensures.cases c.map_err-4.ensures.variant c.in_ok-unmet.was unmet_clause in
    let attached : HoldsNowhere (IsUnattachedAt g) = none_such (IsUnattachedAt g) (IsUnmetAt es ranks (length es)) unmet (is_unmet g sound es are count ranks rk) pl (sym c.deref-3.ensures.value ∙ c.in_default.ensures) in
    let split_clause = rw c.deref-4.ensures.value at c.split.ensures in
    let networks = c.in_ok-networks.networks.items in
    let sp : AreSplit es ranks count networks (length es) = ok_of (λ (v : Vec Network Global). AreSplit es ranks count v.items (length es)) _ c.split.result c.map_err-5.result c.in_ok-networks.networks
    c.map_err-5.ensures.cases c.map_err-5.ensures.variant c.in_ok-networks.was split_clause in
    let tall_clause = rw c.deref-5.ensures.value at c.tall_places.ensures in
    let tall = c.in_ok-tall.tall.items in
    let tp : ArePlaces (IsTallAt networks (length networks)) tall = ok_of (λ (v : Vec Place Global). ArePlaces (IsTallAt networks (length networks)) v.items) _ c.tall_places.result c.map_err-6.result c.in_ok-tall.tall
    c.map_err-6.ensures.cases c.map_err-6.ensures.variant c.in_ok-tall.was tall_clause in
    let low : HoldsNowhere (IsTooTallAt g) = none_such (IsTooTallAt g) (IsTallAt networks (length networks)) tall (is_tall_at g sound es are count ranks rk attached networks sp) tp (sym c.deref-6.ensures.value ∙ c.in_default-first_of.ensures) in
    let twice_clause = rw c.boxes.ensures at c.twice_places.ensures in
    let twice = c.in_ok-twice.twice.items in
    let wp : ArePlaces (IsTwiceIn g.boxes (length g.boxes)) twice = ok_of (λ (v : Vec Place Global). ArePlaces (IsTwiceIn g.boxes (length g.boxes)) v.items) _ c.twice_places.result c.map_err-7.result c.in_ok-twice.twice
    c.map_err-7.ensures.cases c.map_err-7.ensures.variant c.in_ok-twice.was twice_clause in
    let first = rw c.deref-7.ensures.value at c.in-Some-first_of-2.ensures in
    let found = rw c.first_line-first_line.ensures at c.fault_at-in-Some-first_of-2.ensures.found in
    (c.in-Some-first_of-2.place, rw c.fault_at-in-Some-first_of-2.ensures.kind (attached, low, first_such (IsTwiceAt g) (IsTwiceIn g.boxes (length g.boxes)) twice (is_twice_in g) (twice_is g) wp c.in-Some-first_of-2.place first), found)

pub invariant_of-result : goal.invariant_of-result
invariant_of-result c =
    let g = c.args.drawing.now in
    let sound = c.rows-rows.ensures.sound in
    let es = c.in_ok-elements.elements in
    let are : AreElementsOf g es = ok_of (AreElementsOf g) _ c.elements_of.result c.map_err-2.result c.in_ok-elements.elements c.map_err-2.ensures.cases c.map_err-2.ensures.variant c.in_ok-elements.was c.elements_of.ensures in
    let rails = c.in_ok-rails.rails.items in
    let ra : AreLeftRails g rails = ok_of (λ (v : Vec Place Global). AreLeftRails g v.items) _ c.rails_of.result c.map_err.result c.in_ok-rails.rails c.map_err.ensures.cases c.map_err.ensures.variant c.in_ok-rails.was c.rails_of.ensures in
    let ranks_clause = c.ranks_of.ensures in
    let count = c.in_ok-ranks.ranks.count in
    let ranks = c.in_ok-ranks.ranks.ranks.items in
    let rk : AreRanks g es count ranks = ok_of (λ (r : Ranks). AreRanks g es r.count r.ranks.items) _ c.ranks_of.result c.map_err-3.result c.in_ok-ranks.ranks
    c.map_err-3.ensures.cases c.map_err-3.ensures.variant c.in_ok-ranks.was ranks_clause in
    let unmet_clause = rw c.deref-2.ensures.value at c.unmet_places.ensures in
    let unmet = c.in_ok-unmet.unmet.items in
    let pl : ArePlaces (IsUnmetAt es ranks (length es)) unmet = ok_of (λ (v : Vec Place Global). ArePlaces (IsUnmetAt es ranks (length es)) v.items) _ c.unmet_places.result c.map_err-4.result c.in_ok-unmet.unmet
    c.map_err-4.ensures.cases c.map_err-4.ensures.variant c.in_ok-unmet.was unmet_clause in
    let attached : HoldsNowhere (IsUnattachedAt g) = none_such (IsUnattachedAt g) (IsUnmetAt es ranks (length es)) unmet (is_unmet g sound es are count ranks rk) pl (sym c.deref-3.ensures.value ∙ c.in_default.ensures) in
    let split_clause = rw c.deref-4.ensures.value at c.split.ensures in
    let networks = c.in_ok-networks.networks.items in
    let sp : AreSplit es ranks count networks (length es) = ok_of (λ (v : Vec Network Global). AreSplit es ranks count v.items (length es)) _ c.split.result c.map_err-5.result c.in_ok-networks.networks
    c.map_err-5.ensures.cases c.map_err-5.ensures.variant c.in_ok-networks.was split_clause in
    let tall_clause = rw c.deref-5.ensures.value at c.tall_places.ensures in
    let tall = c.in_ok-tall.tall.items in
    let tp : ArePlaces (IsTallAt networks (length networks)) tall = ok_of (λ (v : Vec Place Global). ArePlaces (IsTallAt networks (length networks)) v.items) _ c.tall_places.result c.map_err-6.result c.in_ok-tall.tall
    c.map_err-6.ensures.cases c.map_err-6.ensures.variant c.in_ok-tall.was tall_clause in
    let low : HoldsNowhere (IsTooTallAt g) = none_such (IsTooTallAt g) (IsTallAt networks (length networks)) tall (is_tall_at g sound es are count ranks rk attached networks sp) tp (sym c.deref-6.ensures.value ∙ c.in_default-first_of.ensures) in
    let twice_clause = rw c.boxes.ensures at c.twice_places.ensures in
    let twice = c.in_ok-twice.twice.items in
    let wp : ArePlaces (IsTwiceIn g.boxes (length g.boxes)) twice = ok_of (λ (v : Vec Place Global). ArePlaces (IsTwiceIn g.boxes (length g.boxes)) v.items) _ c.twice_places.result c.map_err-7.result c.in_ok-twice.twice
    c.map_err-7.ensures.cases c.map_err-7.ensures.variant c.in_ok-twice.was twice_clause in
    let once : HoldsNowhere (IsTwiceAt g) = none_such (IsTwiceAt g) (IsTwiceIn g.boxes (length g.boxes)) twice (is_twice_in g) wp (sym c.deref-7.ensures.value ∙ c.in_default-first_of-2.ensures) in
    sound_graph g sound es are count ranks rk attached networks sp c.first_line-first_line.result rails ra low once

pub returns-clause-ok : goal.returns-clause-ok
returns-clause-ok c =
    let g = c.args.drawing.now in
    let sound = c.rows-rows.ensures.sound in
    let es = c.in_ok-elements.elements in
    let are : AreElementsOf g es = ok_of (AreElementsOf g) _ c.elements_of.result c.map_err-2.result c.in_ok-elements.elements c.map_err-2.ensures.cases c.map_err-2.ensures.variant c.in_ok-elements.was c.elements_of.ensures in
    let rails = c.in_ok-rails.rails.items in
    let ra : AreLeftRails g rails = ok_of (λ (v : Vec Place Global). AreLeftRails g v.items) _ c.rails_of.result c.map_err.result c.in_ok-rails.rails c.map_err.ensures.cases c.map_err.ensures.variant c.in_ok-rails.was c.rails_of.ensures in
    let ranks_clause = c.ranks_of.ensures in
    let count = c.in_ok-ranks.ranks.count in
    let ranks = c.in_ok-ranks.ranks.ranks.items in
    let rk : AreRanks g es count ranks = ok_of (λ (r : Ranks). AreRanks g es r.count r.ranks.items) _ c.ranks_of.result c.map_err-3.result c.in_ok-ranks.ranks
    c.map_err-3.ensures.cases c.map_err-3.ensures.variant c.in_ok-ranks.was ranks_clause in
    let unmet_clause = rw c.deref-2.ensures.value at c.unmet_places.ensures in
    let unmet = c.in_ok-unmet.unmet.items in
    let pl : ArePlaces (IsUnmetAt es ranks (length es)) unmet = ok_of (λ (v : Vec Place Global). ArePlaces (IsUnmetAt es ranks (length es)) v.items) _ c.unmet_places.result c.map_err-4.result c.in_ok-unmet.unmet
    c.map_err-4.ensures.cases c.map_err-4.ensures.variant c.in_ok-unmet.was unmet_clause in
    let attached : HoldsNowhere (IsUnattachedAt g) = none_such (IsUnattachedAt g) (IsUnmetAt es ranks (length es)) unmet (is_unmet g sound es are count ranks rk) pl (sym c.deref-3.ensures.value ∙ c.in_default.ensures) in
    let split_clause = rw c.deref-4.ensures.value at c.split.ensures in
    let networks = c.in_ok-networks.networks.items in
    let sp : AreSplit es ranks count networks (length es) = ok_of (λ (v : Vec Network Global). AreSplit es ranks count v.items (length es)) _ c.split.result c.map_err-5.result c.in_ok-networks.networks
    c.map_err-5.ensures.cases c.map_err-5.ensures.variant c.in_ok-networks.was split_clause in
    let tall_clause = rw c.deref-5.ensures.value at c.tall_places.ensures in
    let tall = c.in_ok-tall.tall.items in
    let tp : ArePlaces (IsTallAt networks (length networks)) tall = ok_of (λ (v : Vec Place Global). ArePlaces (IsTallAt networks (length networks)) v.items) _ c.tall_places.result c.map_err-6.result c.in_ok-tall.tall
    c.map_err-6.ensures.cases c.map_err-6.ensures.variant c.in_ok-tall.was tall_clause in
    let low : HoldsNowhere (IsTooTallAt g) = none_such (IsTooTallAt g) (IsTallAt networks (length networks)) tall (is_tall_at g sound es are count ranks rk attached networks sp) tp (sym c.deref-6.ensures.value ∙ c.in_default-first_of.ensures) in
    let twice_clause = rw c.boxes.ensures at c.twice_places.ensures in
    let twice = c.in_ok-twice.twice.items in
    let wp : ArePlaces (IsTwiceIn g.boxes (length g.boxes)) twice = ok_of (λ (v : Vec Place Global). ArePlaces (IsTwiceIn g.boxes (length g.boxes)) v.items) _ c.twice_places.result c.map_err-7.result c.in_ok-twice.twice
    c.map_err-7.ensures.cases c.map_err-7.ensures.variant c.in_ok-twice.was twice_clause in
    let once : HoldsNowhere (IsTwiceAt g) = none_such (IsTwiceAt g) (IsTwiceIn g.boxes (length g.boxes)) twice (is_twice_in g) wp (sym c.deref-7.ensures.value ∙ c.in_default-first_of-2.ensures) in
    (networks_are g sound es are count ranks rk attached networks sp c.first_line-first_line.result rails c.first_line-first_line.ensures ra, record { attached = attached; low = low; named_once = once })
