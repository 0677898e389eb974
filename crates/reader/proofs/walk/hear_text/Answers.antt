use Rattle.tree.specs.Form.{in_text}
use Rattle.scan.proofs.Scans.{run_in}
use Rattle.reader.proofs.walk.hear_text.Goals as goal

pub text-requires : goal.text-requires
text-requires c =
    let w = run_in in_text c.args.s.now c.args.start _ c.requires.0 c.text_end-end.ensures in
    (w.0, (w.1, c.requires.1.1))
