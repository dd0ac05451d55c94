-- The parts of a message's line.
use Rattle.std.proofs.Common.{arith, ◌≡◌, ℕ, ◌++◌, ◌∷◌, [], List, length, map, Option, Some, None, sym, ap, refl, ◌∙◌, subst, append_assoc, append-nil}
use Rattle.std.specs.Prelude.{codes}
use Rattle.std.specs.List.{AllByRecursion, AllZip, flat_map, zip, join_with_byte}
use Rattle.std.specs.Option.{option_map}
use Rattle.std.proofs.lemmas.List.{append_cancel_left}
use Rattle.std.proofs.lemmas.Option.{none-some, same_Some, some_pair_parts}
use Rattle.std_blocks.specs.declared.value.Value.{Value}
use Rattle.declared_names.specs.Kinds.{kind_of}
use Rattle.task_codes.specs.declared.task_ref.TaskRef.{TaskRef}
use Rattle.task_codes.specs.declared.task_output.TaskOutput.{TaskOutput}
use Rattle.task_codes.specs.CodeValue.{CodeValue, image_kinds}
use Rattle.plant.specs.PlantValue.{PlantValue, ResourceValue, code_at}
use Rattle.text_lines.specs.Lists.{list_text, give_text, gives_text}
use Rattle.text_lines.specs.ReadParts.{IsInRange, IsBehind}
use Rattle.evaluation.specs.declared.name.Name.{Name}
use Rattle.evaluation.specs.Messages.{MessageValue, message}
use Rattle.text_lines.specs.MessageLines.{name_text, image_text, message_line, IsSmall, IsMessageOf}
use Rattle.text_lines.specs.Steps.Reading.{StopsAt, IsRead, before_pair, pair_text, IsPair, IsHeardOf, all_heard_text, IsGivenOf, blank_give, blank_gives, AreGivesRead, IsFreelyRead}

pub all_small : (rs : List ResourceValue) (ns : List ℕ) → length ns ≡ length rs → AllByRecursion IsSmall ns → AllZip IsHeardOf rs ns
all_small [] [] e all = tt
all_small [] (n ∷ ns) e all = absurd (omega (arith, e))
all_small (r ∷ rs) [] e all = absurd (omega (arith, e))
all_small (r ∷ rs) (n ∷ ns) e all = (all.0, all_small rs ns (omega (arith, e)) all.1)

pub all_given : (os : List TaskOutput) (xs : List Value) → map kind_of xs ≡ map (λ (o : TaskOutput). o.kind) os → AllByRecursion IsInRange xs → AllZip IsGivenOf os xs
all_given [] [] e all = tt
all_given [] (x ∷ xs) e all = absurd cc
all_given (o ∷ os) [] e all = absurd cc
all_given (o ∷ os) (x ∷ xs) e all =
    let first : kind_of x ≡ o.kind = cc in
    let others : map kind_of xs ≡ map (λ (p : TaskOutput). p.kind) os = cc in
    ((first, all.0), all_given os xs others all.1)

-- items parted by blanks, each behind its blank
pub blanks : {A : Type 0} (g : A → List ℕ) (e : A) (es : List A) → codes " " ++ join_with_byte 32 (map g (e ∷ es)) ≡ flat_map (λ d. codes " " ++ g d) (e ∷ es)
blanks g e [] = ap (λ l. 32 ∷ l) (sym (append-nil (g e)))
blanks g e (d ∷ es) = ap (λ l. 32 ∷ (g e ++ l)) (blanks g d es)

-- What a task gave is read where it stands at the end of a text.
gives_last : (code : CodeValue) (os : List TaskOutput) (rest : List ℕ) (found : Option (List Value × List ℕ))
    → IsRead (λ vs. flat_map (blank_give code) (zip os vs)) (AllZip IsGivenOf os) 32 rest found
    → (values : List Value) → AllZip IsGivenOf os values → rest ≡ codes " " ++ list_text (map (give_text code) (zip os values)) → option_map (λ f. f.0) found ≡ Some values
gives_last code [] rest found read [] all is = ap (option_map (λ f. f.0)) (read [] rest tt (subst (StopsAt 32) (sym is) refl) refl)
gives_last code [] rest found read (x ∷ xs) all is = absurd all
gives_last code (o ∷ os) rest found read [] all is = absurd all
gives_last code (o ∷ os) rest found read (x ∷ xs) all is =
    ap (option_map (λ f. f.0)) (read (x ∷ xs) [] all tt (is ∙ blanks (give_text code) (o, x) (zip os xs) ∙ sym (append-nil (flat_map (blank_give code) ((o, x) ∷ zip os xs)))))

pub gives_read : (code : CodeValue) (text rest : List ℕ) (found : Option (List Value × List ℕ)) → IsBehind text (codes " GIVES") (Some rest)
    → IsRead (blank_gives code) (AllZip IsGivenOf code.outputs) 32 rest found → AreGivesRead code text (option_map (λ f. f.0) found)
gives_read code text rest found behind read =
    λ values all is.
    gives_last code code.outputs rest found read values all (append_cancel_left (codes " GIVES") rest (codes " " ++ gives_text code values) (sym behind ∙ is))

-- the line of a message of a task with this code, part by part
pub line_parted : (plant : PlantValue) (code : CodeValue) (m : MessageValue) → code_at plant m.name.task ≡ Some code
    → message_line plant m
    ≡ before_pair plant m.name.task
    ++ (pair_text (m.name.incarnation, m.name.number) ++ ((codes " HEARD" ++ all_heard_text plant m.heard) ++ (codes " GIVES " ++ gives_text code m.image)))
line_parted plant code m coded = ap (λ o. codes "MESSAGE " ++ name_text plant m.name ++ codes " HEARD" ++ all_heard_text plant m.heard ++ codes " GIVES " ++ image_text o m.image) coded ∙ simp append_assoc refl

-- the name of a task's evaluation
abbrev pub name_with : TaskRef → ℕ × ℕ → Name
name_with task pair = record { task = task; incarnation = pair.0; number = pair.1 }

module _ (plant : PlantValue) (task : TaskRef) (code : CodeValue) (line : List ℕ) (coded : code_at plant task ≡ Some code) where
  abbrev last : MessageValue → List ℕ
  last m = codes " GIVES " ++ gives_text code m.image

  abbrev heard_part : List ℕ → List ℕ
  heard_part hs = codes " HEARD" ++ all_heard_text plant hs

  abbrev pair_of : MessageValue → ℕ × ℕ
  pair_of m = (m.name.incarnation, m.name.number)

  same_code : (m : MessageValue) (is : IsMessageOf plant m) → m.name.task ≡ task → is.form.code ≡ code
  same_code m is of = same_Some is.form.code code (sym is.form.coded ∙ ap (code_at plant) of ∙ coded)

  pub parted : (m : MessageValue) → m.name.task ≡ task → line ≡ message_line plant m → line ≡ before_pair plant task ++ (pair_text (pair_of m) ++ (heard_part m.heard ++ last m))
  parted m of is =
      is ∙ line_parted plant code m (ap (code_at plant) of ∙ coded)
      ∙ ap (λ t. before_pair plant t ++ (pair_text (pair_of m) ++ (heard_part m.heard ++ last m))) of

  pub no_task : IsBehind line (before_pair plant task) None → IsFreelyRead plant task line None
  no_task none = λ m is of e. absurd (none (pair_text (pair_of m) ++ (heard_part m.heard ++ last m)) (parted m of e))

  module _ (rest : List ℕ) (begun : IsBehind line (before_pair plant task) (Some rest)) where
    at_pair : (m : MessageValue) → m.name.task ≡ task → line ≡ message_line plant m → rest ≡ pair_text (pair_of m) ++ (heard_part m.heard ++ last m)
    at_pair m of e = append_cancel_left (before_pair plant task) rest (pair_text (pair_of m) ++ (heard_part m.heard ++ last m)) (sym begun ∙ parted m of e)

    pub no_pair : IsRead pair_text IsPair 32 rest None → IsFreelyRead plant task line None
    no_pair none = λ m is of e.
        absurd (none-some (pair_of m, heard_part m.heard ++ last m) (none (pair_of m) (heard_part m.heard ++ last m) (is.incarnation_small, is.number_small) refl (at_pair m of e)))

    module _ (pair : ℕ × ℕ) (left : List ℕ) (paired : IsRead pair_text IsPair 32 rest (Some (pair, left))) where
      at_heard : (m : MessageValue) → IsMessageOf plant m → m.name.task ≡ task → line ≡ message_line plant m → (pair ≡ pair_of m) × (left ≡ heard_part m.heard ++ last m)
      at_heard m is of e =
          some_pair_parts pair (pair_of m) left (heard_part m.heard ++ last m)
          (paired (pair_of m) (heard_part m.heard ++ last m) (is.incarnation_small, is.number_small) refl (at_pair m of e))

      pub no_heard : IsRead heard_part (AllZip IsHeardOf plant.resources) 32 left None → IsFreelyRead plant task line None
      no_heard none = λ m is of e.
          absurd (none-some (m.heard, last m) (none m.heard (last m) (all_small plant.resources m.heard is.form.heard_each is.heard_small) refl (at_heard m is of e).1))

      module _ (hs : List ℕ) (end : List ℕ) (heard : IsRead heard_part (AllZip IsHeardOf plant.resources) 32 left (Some (hs, end))) where
        at_image : (m : MessageValue) → IsMessageOf plant m → m.name.task ≡ task → line ≡ message_line plant m → (hs ≡ m.heard) × (end ≡ last m)
        at_image m is of e =
            some_pair_parts hs m.heard end (last m)
            (heard m.heard (last m) (all_small plant.resources m.heard is.form.heard_each is.heard_small) refl (at_heard m is of e).1)

        given : (m : MessageValue) (is : IsMessageOf plant m) → m.name.task ≡ task → AllZip IsGivenOf code.outputs m.image
        given m is of = all_given code.outputs m.image (is.form.kinds_are ∙ ap image_kinds (same_code m is of)) is.values_in_range

        pub no_image : AreGivesRead code end None → IsFreelyRead plant task line None
        no_image none = λ m is of e. absurd (none-some m.image (none m.image (given m is of) (at_image m is of e).1))

        pub all_parts : (values : List Value) (found : MessageValue) → AreGivesRead code end (Some values)
            → found ≡ message (name_with task pair) hs values → IsFreelyRead plant task line (Some found)
        all_parts values found read made = λ m is of e.
            let pairs = (at_heard m is of e).0 in
            let heards = (at_image m is of e).0 in
            let images : values ≡ m.image = same_Some values m.image (read m.image (given m is of) (at_image m is of e).1) in
            let name : name_with task pair ≡ m.name = ap (λ t. name_with t pair) (sym of) ∙ ap (name_with m.name.task) pairs in
            ap (λ x. Some x) (made ∙ ap (λ n. message n hs values) name ∙ ap (λ h. message m.name h values) heards ∙ ap (message m.name m.heard) images)
