-- Two drawings, one below the other: their names, their networks, and why the second is refused.
use Rattle.std.proofs.Common.{◌≡◌, ◌≢◌, ℕ, zero, suc, ◌+◌, ◌-◌, ◌≤◌, List, [], ◌∷◌, ◌++◌, Some, Bool, true, IsTrue, All, map, take, drop, length, slice_get, get_or, refl, sym, ap, subst, ◌∙◌, inl, inr, string_bytes}
use Rattle.std.proofs.lemmas.List.{map_more, take-append-drop, take_all, length-map, length-append}
use Rattle.std.proofs.lemmas.List.Elements.{All-cons, All-head, All-map, All-nil, All-tail}
use Rattle.std.proofs.lemmas.List.Sums.{fold_more}
use Rattle.std.proofs.lemmas.Option.{get_or_from_slice_get, slice_get_within, none-some, same_Some}
use Rattle.lists.specs.Alike.{Tells}
use Rattle.lists.proofs.Places.{same_by_each}
use Rattle.drawings.specs.declared.place.Place.{Place}
use Rattle.drawings.specs.declared.drawn_box.DrawnBox.{DrawnBox}
use Rattle.network.specs.Links.{Diagram}
use Rattle.network.specs.GraphValue.{GraphValue, diagram}
use Rattle.network.specs.declared.element.Element.{Element}
use Rattle.network.specs.declared.fault.GraphFault.{GraphFault}
use Rattle.network.specs.declared.fault.GraphFaultKind.TheVariants.{InstanceTwice}
use Rattle.declared_names.specs.declared.declarations.Declaration.{Declaration}
use Rattle.name_faults.specs.Guess.{AreGuessed}
use Rattle.name_faults.specs.Binding.{CanBind, IsBoundNetwork}
use Rattle.name_faults.specs.Findings.{IsFirstBindFault}
use Rattle.name_faults.specs.declared.bind_fault.BindFault.{BindFault}
use Rattle.needed_networks.specs.Slices.{HaveRails}
use Rattle.power_flow.specs.LadderValue.{LadderValue, diagrams}
use Rattle.text_commands.specs.EvalText.{RefusesNamesOf}
use Rattle.text_commands.specs.SecondDrawing.{IsFirstDrawing, IsLadderOfBoth, IsNoneTwice, IsReadAs, as_input, bind_fault_below, empty_rows, joined_names, line_below, lowered, seen_names, with_name}
use Rattle.text_commands.specs.Steps.Refusing.{RefusesLadder}
use Rattle.text_commands.specs.Steps.SecondDrawing.{IsApart, IsBelowOf, IsJoined, IsReadGraph, IsTwiceAt, RefusesBeside, RefusesLadders, RefusesOther}
use Rattle.text_commands.specs.declared.second_drawing.drawn_graph.DrawnGraph.{DrawnGraph}
use Rattle.text_commands.specs.declared.second_fault.SecondFault.TheVariants as second
use Rattle.text_commands.specs.declared.text_command_fault.TextCommandFault.{TextCommandFault}
use Rattle.text_commands.specs.declared.text_command_fault.TextCommandFault.TheVariants.{Text, Word, Write, Memory}
use Rattle.text_commands.specs.declared.text_fault.TextFault.TheVariants.{Draw, Graph, Bind, Plant, TooLong, Second}

-- lists that are told to be the same item by item
pub equal_if_told : {X : Type 0} {answers : X → X → Bool → Type 0} (xs ys : List X) (told : Bool) → Tells answers told xs ys → ((x y : X) → answers x y true → x ≡ y) → IsTrue told → xs ≡ ys
equal_if_told xs ys told tells each on = let all = tells.same on in same_by_each xs ys all.many (λ k x y at bt. each x y (all.each x y (k, at, bt)))

-- a list in two parts
pub in_parts : {X : Type 0} (n : ℕ) (xs first second : List X) → take n xs ≡ first → drop n xs ≡ second → xs ≡ first ++ second
in_parts n xs first second one two = sym (take-append-drop n xs) ∙ ap (λ l. l ++ drop n xs) one ∙ ap (λ l. first ++ l) two

-- one name more behind others
pub joined_more : (ones others : List Declaration) (k : ℕ) (d : Declaration) (before after : List Declaration) → slice_get others k ≡ Some d
    → before ≡ joined_names ones (take k others) → after ≡ with_name before d → after ≡ joined_names ones (take (k + 1) others)
joined_more ones others k d before after at was is =
    let here : get_or others k d ≡ d = get_or_from_slice_get others k d d at in
    is ∙ ap (λ names. with_name names d) was ∙ ap (λ x. with_name (joined_names ones (take k others)) x) (sym here)
    ∙ sym (fold_more with_name ones others k d (slice_get_within others k d at))

abbrev seen_name : Declaration → Declaration
seen_name d = record { name = d.name; declared = as_input d.declared }

-- one name more of those that the second drawing sees
pub seen_more : (ds : List Declaration) (k : ℕ) (d : Declaration) (before after : List Declaration) → slice_get ds k ≡ Some d
    → before ≡ seen_names (take k ds) → after ≡ before ++ seen_name d ∷ [] → after ≡ seen_names (take (k + 1) ds)
seen_more ds k d before after at was is =
    let here : get_or ds k d ≡ d = get_or_from_slice_get ds k d d at in
    is ∙ ap (λ names. names ++ seen_name d ∷ []) was ∙ ap (λ x. seen_names (take k ds) ++ seen_name x ∷ []) (sym here)
    ∙ sym (map_more seen_name ds k d (slice_get_within ds k d at))

-- no box has the name of one of the first drawing
pub none_twice : (names : List Declaration) (boxes : List DrawnBox) (k : ℕ) → length boxes ≤ k → IsNoneTwice names (take k boxes) → IsNoneTwice names boxes
none_twice names boxes k past none = subst (IsNoneTwice names) (take_all k boxes past) none

-- a box that has one is told
pub beside_twice : (rows : ℕ) (one two : DrawnGraph) (ones others : List Declaration) (at : Place) (fault : GraphFault) → IsBelowOf one.graph.rails two.graph.rails
    → IsTwiceAt ones two.drawing.boxes at → fault ≡ record { kind = InstanceTwice; line = line_below rows at.row; column = at.column }
    → RefusesBeside rows one ones two others (Text (Second (second.Graph fault)))
beside_twice rows one two ones others at fault below twice is =
    (below, twice.0, twice.1, is ∙ ap (λ (p : Place). record { kind = InstanceTwice; line = line_below rows p.row; column = p.column }) twice.2)

-- a name that is refused is told
pub beside_names : (rows : ℕ) (one two : DrawnGraph) (ones others seen : List Declaration) (found fault : BindFault) → IsBelowOf one.graph.rails two.graph.rails
    → IsNoneTwice ones two.drawing.boxes → seen ≡ joined_names (seen_names ones) others → IsFirstBindFault seen two.graph found → fault ≡ bind_fault_below rows found
    → RefusesBeside rows one ones two others (Text (Second (second.Bind fault)))
beside_names rows one two ones others seen found fault below none names first is =
    (below, none, found, subst (λ (ds : List Declaration). IsFirstBindFault ds two.graph found) names first, is)

-- the names of all networks are bound
pub can_bind : (ds : List Declaration) (graph : GraphValue) → All (IsBoundNetwork ds) graph.networks → CanBind ds (diagrams graph)
can_bind ds graph bound = All-map (λ (d : Diagram). IsBoundNetwork ds d.elements) (diagram graph.rails) graph.networks bound

each_bound : (ds : List Declaration) (rails : List Place) (networks : List (List Element)) → CanBind ds (map (diagram rails) networks) → All (IsBoundNetwork ds) networks
each_bound ds rails [] h = All-nil (IsBoundNetwork ds)
each_bound ds rails (es ∷ networks) h = All-cons (IsBoundNetwork ds) es networks
    (All-head (λ (d : Diagram). IsBoundNetwork ds d.elements) (diagram rails es) (map (diagram rails) networks) h)
    (each_bound ds rails networks (All-tail (λ (d : Diagram). IsBoundNetwork ds d.elements) (diagram rails es) (map (diagram rails) networks) h))

-- the names of what was read of a drawing are refused
pub names_refused_of : (drawing : List ℕ) (d : DrawnGraph) (ds : List Declaration) (fault : BindFault) → IsReadGraph drawing d → AreGuessed d.graph ds
    → (All (IsBoundNetwork ds) d.graph.networks → ⊥) → IsFirstBindFault ds d.graph fault → RefusesLadder drawing (Text (Bind fault))
names_refused_of drawing d ds fault read guessed refused first = by read.0 where
  of_text : RefusesNamesOf (string_bytes d.text) fault
  of_text = record {
    picture = d.drawing;
    graph = d.graph;
    declarations = ds;
    drawn = read.1.drawn;
    built = read.1.built;
    faultless = read.1.faultless;
    guessed = guessed;
    refused = λ can. refused (each_bound ds d.graph.rails d.graph.networks can);
    first = first;
  }

  by : IsReadAs drawing (string_bytes d.text) → RefusesLadder drawing (Text (Bind fault))
  by (inl plain) = inl (plain.0, subst (λ (t : List ℕ). RefusesNamesOf t fault) plain.1 of_text)
  by (inr emptied) = inr (emptied.0, subst (λ (t : List ℕ). RefusesNamesOf t fault) emptied.1 of_text)

-- the first drawing, of what was read of it
first_is : (first : List ℕ) (one : DrawnGraph) (ones : List Declaration) → IsReadGraph first one → AreGuessed one.graph ones → CanBind ones (diagrams one.graph) → IsFirstDrawing first one.graph ones
first_is first one ones read guessed bound = record { text = string_bytes one.text; read = read.0; picture = one.drawing; drawn = read.1; guessed = guessed; bound = bound }

pub both_joined : (first other : List ℕ) (one two : DrawnGraph) (ones others : List Declaration) (l : LadderValue) → IsReadGraph first one → AreGuessed one.graph ones → CanBind ones (diagrams one.graph)
    → IsReadGraph (lowered first other) two → AreGuessed two.graph others → IsJoined one two (joined_names ones others) l
    → IsApart (length ones) (length one.graph.networks) (length two.graph.networks) l → IsLadderOfBoth first other l.declarations l.networks
both_joined first other one two ones others l read guessed bound below named joined apart = record {
  one = one.graph;
  ones = ones;
  is_first = first_is first one ones read guessed bound;
  picture = two.drawing;
  two = two.graph;
  others = others;
  is_second = record { text = string_bytes two.text; read = below.0; drawn = below.1; guessed = named };
  declarations = joined.0;
  networks_are = joined.1;
  bound = joined.2;
  unchanged = apart;
}

rails_of : (rails : List Place) (networks : List (List Element)) (k : ℕ) (d : Diagram) → slice_get (map (diagram rails) networks) k ≡ Some d → d.rails ≡ rails
rails_of rails [] k d at = absurd (none-some d at)
rails_of rails (n ∷ networks) zero d at = ap (λ (x : Diagram). x.rails) (sym (same_Some (diagram rails n) d at))
rails_of rails (n ∷ networks) (suc k) d at = rails_of rails networks k d at

-- the left rails of both
pub joined_rails : (one two : DrawnGraph) (names : List Declaration) (l : LadderValue) (rails : List Place) → IsJoined one two names l → rails ≡ one.graph.rails ++ two.graph.rails → HaveRails l.networks rails
joined_rails one two names l rails joined is = λ k d at.
    rails_of (one.graph.rails ++ two.graph.rails) (one.graph.networks ++ two.graph.networks) k d (subst (λ (ns : List Diagram). slice_get ns k ≡ Some d) joined.1 at) ∙ sym is

-- the number of the networks of both
pub joined_count : (one two : DrawnGraph) (names : List Declaration) (l : LadderValue) (n : ℕ) → IsJoined one two names l → n ≡ length one.graph.networks + length two.graph.networks → n ≡ length l.networks
joined_count one two names l n joined is =
    is ∙ sym (length-append one.graph.networks two.graph.networks)
    ∙ sym (length-map (one.graph.networks ++ two.graph.networks) (diagram (one.graph.rails ++ two.graph.rails))) ∙ ap (λ (ns : List Diagram). length ns) (sym joined.1)

-- the first drawing is refused
pub first_refused : (first other : List ℕ) (fault : TextCommandFault) → RefusesLadder first fault → RefusesLadders first other fault
first_refused first other (Text (Draw fault)) refused = refused
first_refused first other (Text (Graph fault)) refused = refused
first_refused first other (Text (Bind fault)) refused = refused
first_refused first other (Text (Plant fault)) (inl r) = r.1
first_refused first other (Text (Plant fault)) (inr r) = r.1
first_refused first other (Text TooLong) (inl r) = r.1
first_refused first other (Text TooLong) (inr r) = r.1
first_refused first other (Text (Second fault)) (inl r) = absurd r.1
first_refused first other (Text (Second fault)) (inr r) = absurd r.1
first_refused first other (Word fault) refused = refused
first_refused first other Write refused = refused
first_refused first other Memory refused = refused

-- the second one is, by itself
pub other_refused : (first other : List ℕ) (one : DrawnGraph) (ones : List Declaration) (fault : TextCommandFault) → IsReadGraph first one → AreGuessed one.graph ones → CanBind ones (diagrams one.graph)
    → RefusesOther first other fault → RefusesLadders first other fault
other_refused first other one ones (Text (Second fault)) read guessed bound refused =
    record { one = one.graph; ones = ones; is_first = first_is first one ones read guessed bound; refused = inl refused }
other_refused first other one ones (Text (Draw fault)) read guessed bound refused = absurd refused
other_refused first other one ones (Text (Graph fault)) read guessed bound refused = absurd refused
other_refused first other one ones (Text (Bind fault)) read guessed bound refused = absurd refused
other_refused first other one ones (Text (Plant fault)) read guessed bound refused = refused
other_refused first other one ones (Text TooLong) read guessed bound refused = refused
other_refused first other one ones (Word fault) read guessed bound refused = refused
other_refused first other one ones Write read guessed bound refused = refused
other_refused first other one ones Memory read guessed bound refused = refused

-- it is, beside the first
pub beside_refused : (first other : List ℕ) (rows : ℕ) (one two : DrawnGraph) (ones others : List Declaration) (fault : TextCommandFault) → rows ≡ length (empty_rows first)
    → IsReadGraph first one → AreGuessed one.graph ones → CanBind ones (diagrams one.graph) → IsReadGraph (lowered first other) two → AreGuessed two.graph others
    → RefusesBeside rows one ones two others fault → RefusesLadders first other fault
beside_refused first other rows one two ones others (Text (Second fault)) are read guessed bound below named refused = record {
  one = one.graph;
  ones = ones;
  is_first = first_is first one ones read guessed bound;
  refused = inr (record {
    picture = two.drawing;
    two = two.graph;
    others = others;
    is_second = record { text = string_bytes two.text; read = below.0; drawn = below.1; guessed = named };
    beside = subst (λ n. RefusesBeside n one ones two others (Text (Second fault))) are refused;
  });
}
beside_refused first other rows one two ones others (Text (Draw fault)) are read guessed bound below named refused = absurd refused
beside_refused first other rows one two ones others (Text (Graph fault)) are read guessed bound below named refused = absurd refused
beside_refused first other rows one two ones others (Text (Bind fault)) are read guessed bound below named refused = absurd refused
beside_refused first other rows one two ones others (Text (Plant fault)) are read guessed bound below named refused = refused
beside_refused first other rows one two ones others (Text TooLong) are read guessed bound below named refused = refused
beside_refused first other rows one two ones others (Word fault) are read guessed bound below named refused = refused
beside_refused first other rows one two ones others Write are read guessed bound below named refused = refused
beside_refused first other rows one two ones others Memory are read guessed bound below named refused = refused
