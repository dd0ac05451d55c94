-- A text that was written in parts.
use Rattle.std.proofs.Common.{◌≡◌, ℕ, ◌++◌, List, ap, ◌∙◌, append_assoc}

pub three_parts : (t a b c t1 t2 t3 : List ℕ) → t1 ≡ t ++ a → t2 ≡ t1 ++ b → t3 ≡ t2 ++ c → t3 ≡ t ++ (a ++ b ++ c)
three_parts t a b c t1 t2 t3 p q r =
    let whole : t3 ≡ ((t ++ a) ++ b) ++ c = r ∙ ap (λ x. x ++ c) (q ∙ ap (λ x. x ++ b) p) in
    whole ∙ group t a b c
  where
    group : (t a b c : List ℕ) → ((t ++ a) ++ b) ++ c ≡ t ++ (a ++ b ++ c)
    group t a b c = simp append_assoc

pub four_parts : (t a b c d t1 t2 t3 t4 : List ℕ) → t1 ≡ t ++ a → t2 ≡ t1 ++ b → t3 ≡ t2 ++ c → t4 ≡ t3 ++ d → t4 ≡ t ++ (a ++ b ++ c ++ d)
four_parts t a b c d t1 t2 t3 t4 p q r s =
    let whole : t4 ≡ (((t ++ a) ++ b) ++ c) ++ d = s ∙ ap (λ x. x ++ d) (r ∙ ap (λ x. x ++ c) (q ∙ ap (λ x. x ++ b) p)) in
    whole ∙ group t a b c d
  where
    group : (t a b c d : List ℕ) → (((t ++ a) ++ b) ++ c) ++ d ≡ t ++ (a ++ b ++ c ++ d)
    group t a b c d = simp append_assoc

pub five_parts : (t a b c d e t1 t2 t3 t4 t5 : List ℕ) → t1 ≡ t ++ a → t2 ≡ t1 ++ b → t3 ≡ t2 ++ c → t4 ≡ t3 ++ d → t5 ≡ t4 ++ e → t5 ≡ t ++ (a ++ b ++ c ++ d ++ e)
five_parts t a b c d e t1 t2 t3 t4 t5 p q r s w =
    let whole : t5 ≡ ((((t ++ a) ++ b) ++ c) ++ d) ++ e = w ∙ ap (λ x. x ++ e) (s ∙ ap (λ x. x ++ d) (r ∙ ap (λ x. x ++ c) (q ∙ ap (λ x. x ++ b) p))) in
    whole ∙ group t a b c d e
  where
    group : (t a b c d e : List ℕ) → ((((t ++ a) ++ b) ++ c) ++ d) ++ e ≡ t ++ (a ++ b ++ c ++ d ++ e)
    group t a b c d e = simp append_assoc
