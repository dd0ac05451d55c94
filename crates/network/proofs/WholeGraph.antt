-- What a whole graph promises, of the answers of its parts.
use Rattle.std.proofs.Common.{◌≡◌, ℕ, ◌+◌, ◌<◌, inl, inr, List, [], ◌∷◌, true, false, Option, Some, None, Result, Ok, Err, MatchResult, IfOk, IsTrue, Contains, get_or, slice_get, length, refl, sym, ap, ◌∙◌, arith}
use Rattle.std.proofs.lemmas.Bool.{cases_lt}
use Rattle.std.proofs.lemmas.Option.{slice_get_within, slice_get-get_or, get_or_from_slice_get}
use Rattle.std.specs.Result.{is_ok}
use Rattle.std.specs.Str.{str_eq_ignore_ascii_case, str_to_ascii_lowercase}
use Rattle.std.proofs.lemmas.Slice.Eq.{bytes_eq-Decides}
use Rattle.lists.proofs.Members.{contains_at, at_contains}
use Rattle.drawings.specs.Picture.{Picture, IsSound}
use Rattle.drawings.specs.declared.place.Place.{Place}
use Rattle.drawings.specs.declared.drawn_box.DrawnBox.{DrawnBox}
use Rattle.network.specs.declared.element.Element.{Element}
use Rattle.network.specs.declared.element.Element.TheVariants.{Box}
use Rattle.network.specs.Links.{place}
use Rattle.network.specs.Apart.{first_place, Has}
use Rattle.network.specs.GraphValue.{graph_value, IsSoundGraph}
use Rattle.network.specs.Networks.{IsElementOf, AreLinked, Chained, MeetsAt, IsTop, AreLeftRails, AreNetworks, IsUnattachedAt, IsTooTallAt, IsTwiceAt, IsFirst, HoldsNowhere}
use Rattle.network.specs.Networks.Chained.{here, along}
use Rattle.network.specs.Steps.Listing.{AreElementsOf}
use Rattle.network.specs.Steps.Ranks.{AreRanks, AreSplit, IsIn, ArePlaces, IsUnmetAt, IsTallAt, IsFirstPlaceOf}
use Rattle.network.specs.Steps.Twice.{IsTwiceIn}
use Rattle.network.proofs.Basics.{one_at}
use Rattle.network.proofs.Listed.Sharing.{shared, has_mark, has_on_page, within_rows, within_box, pin_within, precedes_not, marks_no_rail}
use Rattle.network.proofs.Ordered.Ranking.{chained_is, chained_then}

-- what is known of an answer, once its error has become another
pub ok_of : {T E F : Type 0} (P : T → Type 0) (Q : E → Type 0) (r : Result T E) (out : Result T F) (x : T) → MatchResult r (λ y. out ≡ Ok y) Q → is_ok out ≡ is_ok r → out ≡ Ok x → IfOk r P → P x
ok_of {T} {E} {F} P Q (Ok y) out x cases same is h = let e : ◌≡◌ {A = Result T F} (Ok y) (Ok x) = sym cases ∙ is in let one : y ≡ x = cc in rw (← one) h
ok_of P Q (Err e) out x cases same is h = let b : true ≡ false = sym (ap is_ok is) ∙ same in absurd (cc)

pub first_such : (P Q : Place → Type 0) (places : List Place) → ((q : Place) → P q → Q q) → ((q : Place) → Q q → P q) → ArePlaces Q places → (p : Place) → IsFirstPlaceOf places p → IsFirst P p
first_such P Q places there back are p first = record {
  such = (let w = at_contains places p first.there in back p (are.each w.0 p w.1));
  first = λ q such before. first.first q (are.whole q (there q such)) before;
}

pub none_such : (P Q : Place → Type 0) (places : List Place) → ((q : Place) → P q → Q q) → ArePlaces Q places → places ≡ [] → HoldsNowhere P
none_such P Q places there are none p such =
    let w = at_contains places p (are.whole p (there p such)) in
    let h : slice_get [] w.0 ≡ Some p = ap (λ (x : List Place). slice_get x w.0) (sym none) ∙ w.1 in cc

-- names that are equal without regard to case are so either way round
same_name_back : (a b : List ℕ) → IsTrue (str_eq_ignore_ascii_case a b) → IsTrue (str_eq_ignore_ascii_case b a)
same_name_back a b same =
    let x = str_to_ascii_lowercase a in
    let y = str_to_ascii_lowercase b in
    (bytes_eq-Decides y x).1 (sym ((bytes_eq-Decides x y).0 same))

linked_back : (e f : Element) → AreLinked e f → AreLinked f e
linked_back e f l = (l.1, l.0, elim l.2 [ inl a ↦ inr a | inr b ↦ inl b ])

chained_back : (g : Picture) {e f : Element} → IsElementOf g e → Chained g e f → Chained g f e
chained_back g is here = here
chained_back g is (along {e} {f} {h} one is' linked) = chained_then g (along here (chained_is g is one) (linked_back f h linked)) (chained_back g is one)

module _ (g : Picture) (sound : IsSound g) (es : List Element) (are : AreElementsOf g es) (count : ℕ) (ranks : List (Option ℕ)) (rk : AreRanks g es count ranks) where
  rank_at : (k : ℕ) (e : Element) → slice_get es k ≡ Some e → (r : Option ℕ) × (slice_get ranks k ≡ Some r)
  rank_at k e at = (get_or ranks k None, slice_get-get_or ranks k None (let a = slice_get_within es k e at in let l = rk.long in omega arith))

  pub unmet_is : (p : Place) → IsUnmetAt es ranks (length es) p → IsUnattachedAt g p
  unmet_is p h = (h.1, are.drawn h.0 h.1 h.3, (λ row m. rk.unmet h.0 h.1 row h.3 h.4 m), h.5)

  pub is_unmet : (p : Place) → IsUnattachedAt g p → IsUnmetAt es ranks (length es) p
  is_unmet p h =
      let w = are.whole h.0 h.1 in
      let r = rank_at w.0 h.0 w.1 in
      go w.0 w.1 r.0 r.1
    where
      go : (k : ℕ) → slice_get es k ≡ Some h.0 → (r : Option ℕ) → slice_get ranks k ≡ Some r → IsUnmetAt es ranks (length es) p
      go k at None rank = (k, h.0, slice_get_within es k h.0 at, at, rank, h.3)
      go k at (Some m) rank = let t = rk.met k m h.0 at rank in absurd (h.2 t.0 t.1.meets)

  module _ (attached : HoldsNowhere (IsUnattachedAt g)) (networks : List (List Element)) (sp : AreSplit es ranks count networks (length es)) where
    ranked : (k : ℕ) (e : Element) → slice_get es k ≡ Some e → (m : ℕ) × (slice_get ranks k ≡ Some (Some m))
    ranked k e at = let r = rank_at k e at in go r.0 r.1
      where
        go : (r : Option ℕ) → slice_get ranks k ≡ Some r → (m : ℕ) × (slice_get ranks k ≡ Some (Some m))
        go None rank = absurd (attached (first_place e) (e, are.drawn k e at, (λ row m. rk.unmet k e row at rank m), refl))
        go (Some m) rank = (m, rank)

    -- who meets the rail in one row is in one network
    row_chained : (e f : Element) (row : ℕ) → IsElementOf g e → IsElementOf g f → MeetsAt g e row → MeetsAt g f row → Chained g e f
    row_chained e f row is_e is_f me mf =
        let x = me.1 in
        let y = mf.1 in
        let same : x ≡ y = shared g sound x y (place row (g.left + 1)) (chained_is g is_e me.2) (chained_is g is_f mf.2) (inr (inr (inl me.3))) (inr (inr (inl mf.3))) in
        chained_then g me.2 (moved (sym same) (chained_back g is_f mf.2))
      where
        moved : {a b c : Element} → a ≡ b → Chained g a c → Chained g b c
        moved e h = rw (← e) h

    top_same : (e : Element) (r s : ℕ) → IsTop g e r → IsTop g e s → r ≡ s
    top_same e r s a b = let x = a.topmost s b.meets in let y = b.topmost r a.meets in omega arith

    carried : (e f : Element) (row : ℕ) → Chained g e f → Chained g f e → IsTop g e row → IsTop g f row
    carried e f row there back t = record {
      meets = (t.meets.0, t.meets.1, chained_then g back t.meets.2, t.meets.3);
      topmost = λ r m. t.topmost r (m.0, m.1, chained_then g there m.2, m.3);
    }

    pub in_chained : (m i j : ℕ) (e f : Element) → IsIn networks m i e → IsIn networks m j f → Chained g e f
    in_chained m i j e f is is' =
        let a = sp.each m i e is in
        let b = sp.each m j f is' in
        let r = rk.met a.0 m e a.2 a.3 in
        let s = rk.met b.0 m f b.2 b.3 in
        let same = rk.same a.0 b.0 m e f r.0 s.0 a.2 b.2 a.3 b.3 r.1 s.1 in
        row_chained e f s.0 (are.drawn a.0 e a.2) (are.drawn b.0 f b.2) (moved r.0 s.0 same r.1.meets) s.1.meets
      where
        moved : (x y : ℕ) → x ≡ y → MeetsAt g e x → MeetsAt g e y
        moved x y e h = rw (← e) h

    rank_same : (i j m n : ℕ) (e f : Element) → slice_get es i ≡ Some e → slice_get es j ≡ Some f → slice_get ranks i ≡ Some (Some m) → slice_get ranks j ≡ Some (Some n) → Chained g e f → m ≡ n
    rank_same i j m n e f at at' rank rank' chain =
        let r = rk.met i m e at rank in
        let s = rk.met j n f at' rank' in
        let t = carried e f r.0 chain (chained_back g (are.drawn i e at) chain) r.1 in
        let rows = top_same f r.0 s.0 t s.1 in
        elim (cases_lt m n) [
          | inl lt ↦ absurd (let l = rk.order i j m n e f r.0 s.0 at at' rank rank' lt r.1 s.1 in omega arith)
          | inr ge ↦ elim (cases_lt n m) [
            | inl lt ↦ absurd (let l = rk.order j i n m f e s.0 r.0 at' at rank' rank lt s.1 r.1 in omega arith)
            | inr le ↦ omega arith
          ]
        ]

    pub chained_in : (k l i j : ℕ) (e f : Element) → IsIn networks k i e → IsIn networks l j f → Chained g e f → k ≡ l
    chained_in k l i j e f is is' chain = let a = sp.each k i e is in let b = sp.each l j f is' in rank_same a.0 b.0 k l e f a.2 b.2 a.3 b.3 chain

    -- where an element stands
    stands : (e : Element) → IsElementOf g e → (m : ℕ) × (i : ℕ) × IsIn networks m i e
    stands e is =
        let w = are.whole e is in
        let r = ranked w.0 e w.1 in
        let s = sp.whole w.0 r.0 e (slice_get_within es w.0 e w.1) w.1 r.1 in
        (r.0, s.0, s.1)

    in_same : (e : Element) (p : Place) → first_place e ≡ p → IsElementOf g e → (m i : ℕ) → IsIn networks m i e → (f : Element) → Chained g e f → (j : ℕ) × IsIn networks m j f
    in_same e p first is m i is_in f chain =
        let s = stands f (chained_is g is chain) in
        let same = chained_in m s.0 i s.1 e f is_in s.2 chain in
        (s.1, moved s.0 m (sym same) s.2)
      where
        moved : {j : ℕ} (x y : ℕ) → x ≡ y → IsIn networks x j f → IsIn networks y j f
        moved x y e h = rw (← e) h

    pub tall_is : (p : Place) → IsTallAt networks (length networks) p → IsTooTallAt g p
    tall_is p h =
        let t = h.6 in
        let e_in : IsIn networks h.0 h.2 h.3 = (h.1, h.5, h.7) in
        let a = sp.each h.0 h.2 h.3 e_in in
        (h.3, t.2, t.3, are.drawn a.0 h.3 a.2, in_chained h.0 h.2 t.0 h.3 t.2 e_in (h.1, h.5, t.4), in_chained h.0 h.2 t.1 h.3 t.3 e_in (h.1, h.5, t.5), t.6, h.8)

    pub is_tall_at : (p : Place) → IsTooTallAt g p → IsTallAt networks (length networks) p
    is_tall_at p h =
        let e = h.0 in
        let s = stands e h.3 in
        let f = in_same e (first_place e) refl h.3 s.0 s.1 s.2 h.1 h.4 in
        let k = in_same e (first_place e) refl h.3 s.0 s.1 s.2 h.2 h.5 in
        let ns = s.2.0 in (
          s.0,
          ns,
          s.1,
          e,
          slice_get_within networks s.0 ns s.2.1,
          s.2.1,
          (f.0, k.0, h.1, h.2, within s.0 ns s.2.1 f.0 h.1 f.1, within s.0 ns s.2.1 k.0 h.2 k.1, h.6),
          s.2.2,
          h.7,
        )
      where
        within : (m : ℕ) (ns : List Element) → slice_get networks m ≡ Some ns → (i : ℕ) (x : Element) → IsIn networks m i x → slice_get ns i ≡ Some x
        within m ns at i x is = ap (λ (y : List Element). slice_get y i) (one_at networks m m ns is.0 refl at is.1) ∙ is.2

    once : (k l i j : ℕ) (e : Element) → IsIn networks k i e → IsIn networks l j e → (k ≡ l) × (i ≡ j)
    once k l i j e is is' =
        let same = chained_in k l i j e e is is' here in (
          same,
          elim (cases_lt i j) [
            | inl lt ↦ absurd (falls l i j e lt (moved k l same is) is')
            | inr ge ↦ elim (cases_lt j i) [ inl lt ↦ absurd (falls l j i e lt is' (moved k l same is)) | inr le ↦ omega arith ]
          ],
        )
      where
        moved : {n : ℕ} (x y : ℕ) → x ≡ y → IsIn networks x n e → IsIn networks y n e
        moved x y e h = rw (← e) h

        falls : (m a b : ℕ) (e : Element) → a < b → IsIn networks m a e → IsIn networks m b e → ⊥
        falls m a b e lt is is' = let w = sp.rising m a b e e lt is is' in precedes_not (first_place e) (are.rising w.0 w.1 e e w.2 w.3 w.4)

    pub networks_are : (first : ℕ) (rails : List Place) → first ≡ g.first_line → AreLeftRails g rails → AreNetworks g (graph_value first rails networks)
    networks_are first rails same ra = record {
      first_line = same;
      rails = ra;
      drawn = λ k j e is. (let w = sp.each k j e is in are.drawn w.0 e w.2);
      whole = λ e is. (let s = stands e is in (s.0, s.1, s.2));
      filled = filled;
      once = once;
      joined = λ k l i j e f is is'. ((λ eq. in_chained l i j e f (moved k l eq is) is'), (λ chain. chained_in k l i j e f is is' chain));
      elements = λ k i j e f lt is is'. (let w = sp.rising k i j e f lt is is' in are.rising w.0 w.1 e f w.2 w.3 w.4);
      order = λ k l i j e f r s lt is is' tr ts. (let a = sp.each k i e is in let b = sp.each l j f is' in rk.order a.0 b.0 k l e f r s a.2 b.2 a.3 b.3 lt tr ts);
    }
      where
        moved : {n : ℕ} {e : Element} (x y : ℕ) → x ≡ y → IsIn networks x n e → IsIn networks y n e
        moved x y e h = rw (← e) h

        first_in : (xs : List Element) (i : ℕ) (e : Element) → slice_get xs i ≡ Some e → (f : Element) × (slice_get xs 0 ≡ Some f)
        first_in xs i e at = (get_or xs 0 e, slice_get-get_or xs 0 e (let w = slice_get_within xs i e at in omega arith))

        filled : (k : ℕ) → k < length networks → (e : Element) × IsIn networks k 0 e
        filled k lt =
            let u = rk.used k (let l = sp.long in omega arith) in
            let in' : u.0 < length es = (let w = slice_get_within ranks u.0 (Some k) u.1 in let l = rk.long in omega arith) in
            go k u.0 u.1 in' es refl
          where
            go : (k i : ℕ) → slice_get ranks i ≡ Some (Some k) → i < length es → (xs : List Element) → xs ≡ es → (e : Element) × IsIn networks k 0 e
            go k i rank lt [] e = absurd (let h : 0 ≡ length es = ap length e in omega arith)
            go k i rank lt (x ∷ xs) same =
                let s = sp.whole i k (get_or es i x) lt (slice_get-get_or es i x lt) rank in
                let f = first_in s.1.0 s.0 (get_or es i x) s.1.2 in
                (f.0, (s.1.0, s.1.1, f.1))

    -- a box further left comes before
    by_column : (m i j : ℕ) (a b : DrawnBox) → IsIn networks m i (Box a) → IsIn networks m j (Box b) → a.left < b.left → i < j
    by_column m i j a b is is' left = elim (cases_lt i j) [
      | inl lt ↦ lt
      | inr ge ↦ absurd (elim (cases_lt j i) [
        | inl lt ↦ (let w = sp.rising m j i (Box b) (Box a) lt is' is in elim (are.rising w.0 w.1 (Box b) (Box a) w.2 w.3 w.4) [ inl h ↦ omega arith | inr h ↦ (let c = h.0 in omega arith) ])
        | inr le ↦ same_left i j (omega arith) is is'
      ])
    ]
      where
        same_left : (i j : ℕ) → i ≡ j → IsIn networks m i (Box a) → IsIn networks m j (Box b) → ⊥
        same_left i j e is is' = (let at = ap (λ (x : List Element). slice_get x i) (one_at networks m m is.0 is'.0 refl is.1 is'.1) in
            let one : a.left ≡ b.left = ap (λ (x : Element). (first_place x).column) (one_at is'.0 i j (Box a) (Box b) e (sym at ∙ is.2) is'.2) in omega arith)

    -- two boxes of one name are one box
    one_box : HoldsNowhere (IsTwiceAt g) → (a b : DrawnBox) → Contains g.boxes a → Contains g.boxes b → IsTrue (str_eq_ignore_ascii_case a.instance b.instance) → a ≡ b
    one_box once a b is is' named =
        let v = at_contains g.boxes a is in
        let w = at_contains g.boxes b is' in
        elim (cases_lt v.0 w.0) [
          | inl lt ↦ absurd (once (place b.top b.left) (a, b, is, is', sound.boxes_rising v.0 w.0 a b lt v.1 w.1, named, refl))
          | inr ge ↦ elim (cases_lt w.0 v.0) [
            | inl lt ↦ absurd (once (place a.top a.left) (b, a, is', is, sound.boxes_rising w.0 v.0 b a lt w.1 v.1, same_name_back a.instance b.instance named, refl))
            | inr le ↦ one_at g.boxes v.0 w.0 a b (omega arith) v.1 w.1
          ]
        ]

    -- the elements of one network lie within 200 rows
    low_of : HoldsNowhere (IsTooTallAt g) → (m i j : ℕ) (e f : Element) (p q : Place) → IsIn networks m i e → IsIn networks m j f → Has e p → Has f q → q.row < p.row + 200
    low_of low m i j e f p q is is' h h' =
        let a = sp.each m i e is in
        let b = sp.each m j f is' in
        let above = (within_rows g sound e p (are.drawn a.0 e a.2) h).0 in
        let below = (within_rows g sound f q (are.drawn b.0 f b.2) h').1 in
        elim (cases_lt q.row (p.row + 200)) [
          | inl lt ↦ lt
          | inr ge ↦ absurd (low (first_place e) (e, e, f, are.drawn a.0 e a.2, here, in_chained m i j e f is is', (omega arith), refl))
        ]

    pub sound_graph : (first : ℕ) (rails : List Place) → AreLeftRails g rails → HoldsNowhere (IsTooTallAt g) → HoldsNowhere (IsTwiceAt g) → IsSoundGraph (graph_value first rails networks)
    sound_graph first rails ra none_tall named_once = record {
      networks = λ m ns at. record {
        apart = record {
          elements = λ j k e f p at_e at_f h i. (let a = sp.each m j e (ns, at, at_e) in let b = sp.each m k f (ns, at, at_f) in
              let same = shared g sound e f p (are.drawn a.0 e a.2) (are.drawn b.0 f b.2) h i in
              (once m m j k f (ns, at, at_e ∙ ap Some same) (ns, at, at_f)).1);
          rails = λ e p in' h rail. (let w = at_contains ns e in' in let a = sp.each m w.0 e (ns, at, w.1) in let r = at_contains rails p rail in
              marks_no_rail e (sym (has_mark g sound e p (are.drawn a.0 e a.2) h) ∙ (ra.each r.0 p r.1).mark));
        };
        on_page = λ k e p at_e h. (let a = sp.each m k e (ns, at, at_e) in let on = has_on_page g sound e p (are.drawn a.0 e a.2) h in
            ((let x = on.0 in let few = sound.few_rows in omega arith), (let x = on.2 in let few = sound.few_columns in omega arith)));
        order = λ i j e f lt at_e at_f. (let w = sp.rising m i j e f lt (ns, at, at_e) (ns, at, at_f) in are.rising w.0 w.1 e f w.2 w.3 w.4);
        tops = λ e p in' h. (let w = at_contains ns e in' in let a = sp.each m w.0 e (ns, at, w.1) in (within_rows g sound e p (are.drawn a.0 e a.2) h).0);
        low = λ e f p q in_e in_f h i. (let v = at_contains ns e in_e in let w = at_contains ns f in_f in low_of none_tall m v.0 w.0 e f p q (ns, at, v.1) (ns, at, w.1) h i);
        clear = λ j k b e p at_b at_e h top bottom left right. (let v = sp.each m j (Box b) (ns, at, at_b) in let w = sp.each m k e (ns, at, at_e) in
            let same = within_box g sound b e p (are.drawn v.0 (Box b) v.2) (are.drawn w.0 e w.2) h (top, bottom, left, right) in
            (once m m j k (Box b) (ns, at, at_b) (ns, at, at_e ∙ ap Some same)).1);
        pins = λ b pin in' there. (let w = at_contains ns (Box b) in' in let a = sp.each m w.0 (Box b) (ns, at, w.1) in pin_within g sound b pin (are.drawn a.0 (Box b) a.2) there);
        wide = λ b in'. (let w = at_contains ns (Box b) in' in let a = sp.each m w.0 (Box b) (ns, at, w.1) in let is = at_contains g.boxes b (are.drawn a.0 (Box b) a.2) in
            (sound.boxes_whole is.0 b is.1).wide);
        by_column = λ i j a b at_a at_b left. by_column m i j a b (ns, at, at_a) (ns, at, at_b) left;
        names = λ i j a b at_a at_b named. (let v = sp.each m i (Box a) (ns, at, at_a) in let w = sp.each m j (Box b) (ns, at, at_b) in
            let same = one_box named_once a b (are.drawn v.0 (Box a) v.2) (are.drawn w.0 (Box b) w.2) named in
            (once m m i j (Box b) (ns, at, at_a ∙ ap (λ (x : DrawnBox). Some (Box x)) same) (ns, at, at_b)).1);
      };
    }

-- corners of boxes with an earlier one's name
pub twice_is : (g : Picture) (p : Place) → IsTwiceIn g.boxes (length g.boxes) p → IsTwiceAt g p
twice_is g p h = (h.4.1, h.1, (h.4.0, h.4.2, get_or_from_slice_get g.boxes h.4.0 h.4.1 h.4.1 (slice_get-get_or g.boxes h.4.0 h.4.1 h.4.2 ∙ ap Some h.4.3)), contains_at g.boxes h.0 h.1 h.3, h.4.4.0, h.4.4.1, h.5)

pub is_twice_in : (g : Picture) (p : Place) → IsTwiceAt g p → IsTwiceIn g.boxes (length g.boxes) p
is_twice_in g p h =
    let b = at_contains g.boxes h.0 h.2 in
    let c = at_contains g.boxes h.1 h.3 in
    (c.0, h.1, slice_get_within g.boxes c.0 h.1 c.1, c.1, (b.0, h.0, slice_get_within g.boxes b.0 h.0 b.1, get_or_from_slice_get g.boxes b.0 h.0 h.0 b.1, (h.4, h.5)), h.6)
