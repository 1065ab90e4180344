-- Why something is not in a registry, in words (this project's own).
use Rattle.std.specs.Prelude.{ℕ, List, codes}
use Rattle.droid_signature_pattern.specs.declared.reason.Reason.{Reason}
use Rattle.droid_signature_pattern.specs.declared.reason.Reason.TheVariants as reasons
use Rattle.droid_signature.specs.declared.left_out.Why.{Why}
use Rattle.droid_signature.specs.declared.left_out.Why.TheVariants as whys

-- why a registry cannot hold a signature
unfoldable pub reason_text : Reason → List ℕ
reason_text reasons.NoSequence = codes "it has no byte sequence"
reason_text reasons.Reference = codes "its offsets count neither from the beginning nor from the end"
reason_text reasons.NoSubsequence = codes "a byte sequence has no subsequence"
reason_text reasons.SeveralFromEnd = codes "a byte sequence from the end has several subsequences"
reason_text reasons.SubsequencePositions = codes "its subsequences are not in the order of their positions"
reason_text reasons.FurtherUpperOffset = codes "a subsequence behind the first has an upper offset"
reason_text reasons.NoUpperOffset = codes "an upper offset is missing"
reason_text reasons.OffsetOrder = codes "an upper offset is less than the lower one"
reason_text reasons.LargeOffset = codes "an offset is over 65,535"
reason_text reasons.FragmentPositions = codes "the positions of its fragments leave one out"
reason_text reasons.LargePosition = codes "a fragment has a position over 64"
reason_text reasons.Text = codes "a text that a registry has no pattern for, as a bit mask"
reason_text reasons.LongText = codes "a text of more than 65,536 bytes"
reason_text reasons.LongRange = codes "a range of more than 16 bytes"
reason_text reasons.ManyAlternatives = codes "more than 64 alternatives"
reason_text reasons.LongPattern = codes "a pattern of more than 4,096 bytes"
reason_text reasons.LongPatterns = codes "patterns of more than 16,384 bytes in all"
reason_text reasons.GapAtEnd = codes "a gap at the end of a pattern"

-- why something is not in the registry
unfoldable pub why_text : Why → List ℕ
why_text whys.NoPuid = codes "it has no PUID"
why_text whys.BadPuid = codes "its PUID is not of 1 to 32 ASCII letters, digits, / and -"
why_text whys.PuidTaken = codes "an earlier format has its PUID"
why_text whys.BadName = codes "it has no name, or one of more than 255 bytes"
why_text whys.LongNote = codes "its version or media type has more than 255 bytes"
why_text whys.BadExtension = codes "it is empty, has more than 64 bytes, or has a . or a /"
why_text whys.OverItself = codes "that is the format itself"
why_text whys.NoSuchFormat = codes "the registry has no format with that ID"
why_text whys.SeveralFormats = codes "several formats have that ID"
why_text whys.NoSuchSignature = codes "the file has no signature with that ID"
why_text whys.SeveralSignatures = codes "several signatures have that ID"
why_text whys.Unnamed = codes "no format names it"
why_text whys.NoSignatureLeft = codes "all its signatures, so that only its extensions find it"
why_text whys.Full = codes "the registry is full"
why_text (whys.Signature reason) = reason_text reason
