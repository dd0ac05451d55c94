use Rattle.std.proofs.Common.{sym, ◌∙◌}
use Rattle.scan_gates.proofs.Bits.{bits_as_long}
use Rattle.scan_gates.proofs.joining.join_rows.Goals as goal

pub returns : goal.returns
returns c = λ v agrees.
    let built = c.in_ok-on.ensures v agrees in (
      built.0,
      record {
        long = bits_as_long v c.set_rows.new.rows c.args.rows.now c.set_rows.auto.rows;
        within = λ r ge le.
            let here = c.set_rows.ensures.within v r ge le in
            (λ on. built.1.0 (sym here ∙ on), λ some. here ∙ built.1.1 some);
        outside = λ r out. c.set_rows.ensures.outside v r out;
      },
    )
