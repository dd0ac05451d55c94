-- The takes of a code.
use Rattle.std.proofs.Common.{◌≡◌, ℕ, zero, suc, ◌+◌, ◌<◌, ◌≤◌, ◌++◌, List, [], ◌∷◌, length, get_or, take, slice_get, map, Option, Some, None, refl, ap, sym, ◌∙◌, subst, arith}
use Rattle.std.specs.List.{zip}
use Rattle.std.specs.Option.{option_map}
use Rattle.std.proofs.lemmas.Slice.Zip.{length-zip}
use Rattle.std.proofs.lemmas.List.{take_more, take_all, map-append, length-map}
use Rattle.std.proofs.lemmas.Option.{none-some, same_Some, slice_get_within, slice_get-map, get_or_from_slice_get}
use Rattle.lists.proofs.Places.{element_at}
use Rattle.declared_names.specs.declared.declarations.Kind.{Kind}
use Rattle.declared_names.specs.declared.declarations.Kind.TheVariants as kind
use Rattle.declared_names.specs.Kinds.{value_first, kind_of}
use Rattle.task_codes.specs.declared.task_ref.TaskRef.{TaskRef}
use Rattle.lists.specs.Items.{items_or_none}
use Rattle.plant.specs.PlantValue.{code_at}
use Rattle.task_codes.specs.CodeValue.{CodeValue, expected_at, image_kinds, IsSoundCode}
use Rattle.evaluation.specs.declared.take.Take.{Take}
use Rattle.evaluation.specs.Takes.{initial_image, IsTakeOf, AreTakesOf}
use Rattle.evaluation.specs.Messages.{MessageValue, take_from, taken_of}
use Rattle.exchange_core.specs.declared.last.Last.{Last}
use Rattle.exchange_core.specs.HeldMessages.{message_in, known, message_known}
use Rattle.exchange_core.specs.MessageCoreValue.{MessageCoreValue, IsCore}

-- two lists side by side, at one place
pub zip_at : {X Y : Type 0} (xs : List X) (ys : List Y) (k : ℕ) (x : X) (y : Y) → slice_get xs k ≡ Some x → slice_get ys k ≡ Some y → slice_get (zip xs ys) k ≡ Some (x, y)
zip_at {X = X} [] ys k x y e f = absurd (none-some x e)
zip_at {Y = Y} (a ∷ xs) [] k x y e f = absurd (none-some y f)
zip_at (a ∷ xs) (b ∷ ys) zero x y e f = rw (same_Some a x e, same_Some b y f) refl
zip_at (a ∷ xs) (b ∷ ys) (suc k) x y e f = zip_at xs ys k x y e f

-- the kinds expected of a producer
pub kinds_of_producer : (code : CodeValue) (k : ℕ) → IsSoundCode code → k < length code.producers → slice_get code.expected k ≡ Some (expected_at code k)
kinds_of_producer code k sound lt =
    let many = sound.each_expected in
    let found = element_at code.expected k (omega (arith, many)) in
    found.1 ∙ ap Some (sym (ap items_or_none found.1))

-- one take more
pub takes-more : (last : TaskRef → Option MessageValue) (ps : List TaskRef) (es : List (List Kind)) (k : ℕ) (p : TaskRef) (kinds : List Kind) → slice_get ps k ≡ Some p → slice_get es k ≡ Some kinds
    → map (λ e. take_from e.0 e.1 (last e.0)) (take (k + 1) (zip ps es)) ≡ map (λ e. take_from e.0 e.1 (last e.0)) (take k (zip ps es)) ++ take_from p kinds (last p) ∷ []
takes-more last ps es k p kinds at expected =
    let f : TaskRef × List Kind → Take = λ e. take_from e.0 e.1 (last e.0) in
    let here : slice_get (zip ps es) k ≡ Some (p, kinds) = zip_at ps es k p kinds at expected in
    let is : get_or (zip ps es) k (p, kinds) ≡ (p, kinds) = get_or_from_slice_get (zip ps es) k (p, kinds) (p, kinds) here in
    rw (take_more (zip ps es) k (p, kinds) (slice_get_within (zip ps es) k (p, kinds) here), map-append f (take k (zip ps es)) (get_or (zip ps es) k (p, kinds) ∷ []), is)

kinds-first : (kinds : List Kind) → map kind_of (initial_image kinds) ≡ kinds
kinds-first [] = refl
kinds-first (k ∷ ks) = rw (of k, kinds-first ks) where
  of : (k : Kind) → kind_of (value_first k) ≡ k
  of kind.Bool = refl
  of kind.Int = refl
  of kind.Time = refl

-- the take of what a core knows of a producer suits it
take-suits : (core : MessageCoreValue) (p : TaskRef) (code : CodeValue) → IsCore core → code_at core.plant p ≡ Some code → IsTakeOf p (image_kinds code) (take_from p (image_kinds code) (message_known core.table p))
take-suits core p code is found = by (known core.table p) refl where
  by : (o : Option Last) → known core.table p ≡ o → IsTakeOf p (image_kinds code) (take_from p (image_kinds code) (option_map message_in o))
  by None e = record { producer_is = refl; kinds_are = kinds-first (image_kinds code); initial = λ _. refl }
  by (Some last) e =
      let entry = is.each p last e in
      record {
        producer_is = refl;
        kinds_are = entry.kinds_are ∙ ap image_kinds (same_Some entry.code code (sym entry.found ∙ found));
        initial = λ none. absurd (none-some ((message_in last).name.incarnation, (message_in last).name.number) (sym none));
      }

-- the takes of what a core knows are takes of the code
pub takes-suit : (core : MessageCoreValue) (t : TaskRef) (code : CodeValue) (takes : List Take) → IsCore core → IsSoundCode code → code_at core.plant t ≡ Some code → takes ≡ taken_of (message_known core.table) code → AreTakesOf code takes
takes-suit core t code takes is sound found same = subst (AreTakesOf code) (sym same) (record { many = many; each = each }) where
  many : length (taken_of (message_known core.table) code) ≡ length code.producers
  many =
      length-map (zip code.producers code.expected) (λ e. take_from e.0 e.1 (message_known core.table e.0))
      ∙ length-zip code.producers code.expected
      ∙ (let e = sound.each_expected in omega arith)

  each : (k : ℕ) (u : Take) (p : TaskRef) → slice_get (taken_of (message_known core.table) code) k ≡ Some u → slice_get code.producers k ≡ Some p → IsTakeOf p (expected_at code k) u
  each k u p at producer =
      let giver = is.sound.taken t code found k p producer in
      let here : slice_get (zip code.producers code.expected) k ≡ Some (p, image_kinds giver.0) = zip_at code.producers code.expected k p (image_kinds giver.0) producer giver.2 in
      let taken : slice_get (taken_of (message_known core.table) code) k ≡ Some (take_from p (image_kinds giver.0) (message_known core.table p)) =
      slice_get-map (λ e. take_from e.0 e.1 (message_known core.table e.0)) (zip code.producers code.expected) k ∙ ap (option_map (λ e. take_from e.0 e.1 (message_known core.table e.0))) here in
      let is_it : take_from p (image_kinds giver.0) (message_known core.table p) ≡ u = same_Some (take_from p (image_kinds giver.0) (message_known core.table p)) u (sym taken ∙ at) in
      let kinds : image_kinds giver.0 ≡ expected_at code k = sym (ap items_or_none giver.2) in
      subst (λ ks. IsTakeOf p ks u) kinds (subst (IsTakeOf p (image_kinds giver.0)) is_it (take-suits core p giver.0 is giver.1))

-- all takes
pub takes-all : (last : TaskRef → Option MessageValue) (ps : List TaskRef) (es : List (List Kind)) (k : ℕ) → length ps ≤ k
    → map (λ e. take_from e.0 e.1 (last e.0)) (take k (zip ps es)) ≡ map (λ e. take_from e.0 e.1 (last e.0)) (zip ps es)
takes-all last ps es k past = ap (map (λ e. take_from e.0 e.1 (last e.0))) (take_all k (zip ps es) (simp length-zip (omega arith)))
