-- The first texts were added, and each is UTF-8.
use Rattle.std.proofs.Common.{◌≡◌, ◌++◌, take}
use Rattle.std.specs.List.{AllByRecursion}
use Rattle.std.specs.Str.{IsUtf8}
use Rattle.droid_frame.specs.TextLists.{texts_bytes}
use Rattle.droid_frame.proofs.writing.text_writer.append_texts.Given as goal

abbrev pub invariant-loop-text : goal.invariant-loop-text
invariant-loop-text l = record {
  added : l.out.items ≡ l.initial.out.items ++ texts_bytes (take l.text-index l.text-items);
  utf8 : AllByRecursion IsUtf8 (take l.text-index l.text-items);
}
