use Rattle.words.specs.Source.{Past}
use Rattle.words.specs.Drawing.{Rejected}
use Rattle.words.proofs.drawing.draw_below.Given as goal

-- the words read so far were there and rejected, and the others are still to come
abbrev pub invariant-loop-read : goal.invariant-loop-read
invariant-loop-read g l =
    record {
      past : Past l.read (g.W.WordSource.source l.initial.words) (g.W.WordSource.source l.words);
      rejected : Rejected (g.W.WordSource.source l.initial.words) l.bound l.read;
    }
