-- Power at the first place of each element of a network that was read element by element.
use Rattle.std.proofs.Common.{◌≡◌, ◌≢◌, ℕ, ◌+◌, ◌↔◌, List, Bool, true, Some, All, slice_get, length, refl, sym, ap, ◌∙◌, subst, arith}
use Rattle.drawings.specs.declared.place.Place.{Place}
use Rattle.network.specs.declared.element.Element.{Element}
use Rattle.network.specs.Links.{Diagram}
use Rattle.network.specs.Apart.{first_place}
use Rattle.declared_names.specs.declared.declarations.Declaration.{Declaration}
use Rattle.scan_steps.specs.declared.slot.Instance.{Instance}
use Rattle.scan_steps.specs.declared.slot.Slot.{Slot}
use Rattle.scan_steps.specs.declared.slot.Slot.TheVariants.{Block}
use Rattle.scan_steps.specs.declared.bound_box.BoundBox.{BoundBox}
use Rattle.scan_steps.specs.declared.step.Step.{Step}
use Rattle.scan_steps.specs.Conducting.{bit_at}
use Rattle.scan_steps.specs.Slots.{AreSlotsOf}
use Rattle.scan_steps.specs.Steps.Passing.{Pass, ArePassed}
use Rattle.power_flow.specs.declared.steps.circuit.Circuit.{Circuit}
use Rattle.power_flow.specs.Meaning.{AreLinks, BlocksStep, IsSource, Moment, conducts, moment}
use Rattle.power_flow.specs.Steps.Circuit.{IsCircuit}
use Rattle.power_flow.specs.Steps.Comings.{AreReadTo, AreUprightsOn}
use Rattle.power_flow.proofs.Walks.OnPlaces.{Comes}
use Rattle.power_flow.proofs.Boxes.BoxesMeaning as meaning
use Rattle.power_flow.proofs.Ladders.Determinism.{between_same}
use Rattle.power_flow.proofs.ShownPower.Reading.{read_passed}
use Rattle.power_flow.proofs.ShownPower.Comings.{comings_are}
use Rattle.power_flow.proofs.ShownPower.UprightsOn.{power_told}

module _ (ds : List Declaration) (d : Diagram) (circuit : Circuit) (dt : ℕ) (slots between : List Slot) (old : List Bool) (a m : Pass)
    (is : IsCircuit ds d circuit) (fits : AreSlotsOf ds slots) (comings power : List Bool)
    (reading : AreReadTo ds d is.top circuit.boxes.items slots dt (length d.elements) circuit.steps.items comings a m)
    (uprights : AreUprightsOn d.elements comings (length d.elements) power)
    (memories_start : a.memories ≡ old) (memories_long : length old ≡ length d.elements) (rows_long : length a.rows ≡ circuit.rows)
    (links_long : length a.links ≡ length circuit.coils.items) (results_long : length a.results ≡ length circuit.boxes.items)
    (same_length : length between ≡ length slots)
    (placed : (j : ℕ) (e : BoundBox) (i : Instance) → slice_get circuit.boxes.items j ≡ Some e → slice_get m.results j ≡ Some i → slice_get between e.instance ≡ Some (Block i))
    (others : (k : ℕ) → All (λ e. e.instance ≢ k) circuit.boxes.items → slice_get between k ≡ slice_get slots k) where
  abbrev before : Moment
  before = moment slots old

  abbrev Starts : Place → Type 0
  Starts p = IsSource ds d between p

  passed : ArePassed circuit.boxes.items slots dt circuit.steps.items a m
  passed =
      let P : List Step → Type 0 = λ w. ArePassed circuit.boxes.items slots dt w a m in
      subst P (sym reading.whole) (read_passed d is.top circuit.boxes.items slots dt 0 reading.parts comings a m reading.read)

  comings_known : (k : ℕ) (e : Element) → slice_get d.elements k ≡ Some e → (bit_at comings k ≡ true) ↔ Comes d (conducts ds d before) Starts (first_place e)
  comings_known k e at =
      let here : 0 + k ≡ k = omega arith in
      comings_are ds d is.top circuit.rows circuit.boxes.items slots dt (conducts ds d before) Starts is.sound is.rows
      (meaning.no_source ds d circuit dt slots between old a m is fits passed memories_start memories_long rows_long links_long results_long same_length placed others)
      (meaning.rail_source ds d circuit dt slots between old a m is fits passed memories_start memories_long rows_long links_long results_long same_length placed others)
      old m.results is.boxes
      (meaning.reads ds d circuit dt slots between old a m is fits passed memories_start memories_long rows_long links_long results_long same_length placed others)
      (meaning.lets_coil ds d circuit dt slots between old a m is fits passed memories_start memories_long rows_long links_long results_long same_length placed others)
      (meaning.shown ds d circuit dt slots between old a m is fits passed memories_start memories_long rows_long links_long results_long same_length placed others)
      reading.parts comings 0 (let long = reading.long in omega arith)
      (λ j f part there in'. let same : 0 + j ≡ j = omega arith in rw same (reading.each j f part (rw same at there) in'))
      a m
      (meaning.start ds d circuit dt slots between old a m is fits passed memories_start memories_long rows_long links_long results_long same_length placed others)
      reading.read refl k e (ap (slice_get d.elements) here ∙ at)

  -- in a step of the network's blocks this is the power
  pub shown_power : (between' : List Slot) → BlocksStep ds d dt before between' → AreLinks ds d before between' power
  shown_power between' step =
      let no_source = meaning.no_source ds d circuit dt slots between old a m is fits passed memories_start memories_long rows_long links_long results_long same_length placed others in
      let own = meaning.blocks_step ds d circuit dt slots between old a m is fits passed memories_start memories_long rows_long links_long results_long same_length placed others in
      let links : AreLinks ds d before between power = record {
        same_length = uprights.long;
        power = power_told d (conducts ds d before) Starts is.sound no_source comings comings_known power uprights;
      } in
      let P : List Slot → Type 0 = λ s. AreLinks ds d before s power in
      subst P (between_same ds d dt before between between' is.sound.wide own step) links
