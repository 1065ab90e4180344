-- For proofs of callers: the state of a writer of `csv` that writes records as they are defined here.
use Rattle.std.specs.Prelude.{◌≡◌, ℕ, false, List, Some}
use Rattle.std.specs.declared.vec.Vec.{Vec}
use Rattle.std.specs.declared.alloc.Global.{Global}
use Rattle.csv.specs.Writing.{default_writer, fields_written, has_written, text_written, with_style, writer_setup}
use Rattle.csv.specs.declared.writer.QuoteStyle.TheVariants as style
use Rattle.csv.specs.declared.writer.Writer.{Writer}
use Rattle.csv.specs.declared.writer.WriterBuilder.{WriterBuilder}

-- the settings of the writer: the default ones, but with every field between double quotes
abbrev pub always : WriterBuilder
always = with_style default_writer style.Always

-- the writer is at the end of a record, and has written this text so far
pub record Holds (writer : Writer (Vec ℕ Global)) (text : List ℕ) : Type 0 where
  pub setup : writer_setup writer ≡ always
  pub fields : fields_written writer ≡ 0
  pub wrote : has_written writer ≡ false
  pub written : text_written (λ v. Some v.items) writer ≡ Some text
