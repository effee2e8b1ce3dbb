-- The signed value of some words.
use Rattle.std.proofs.Common.{◌≡◌, pos, negsuc, refl}
use Rattle.dice_base.specs.Word.{signed_value}

signed-zero : signed_value 0 ≡ pos 0
signed-zero = refl

signed-largest : signed_value 32767 ≡ pos 32767
signed-largest = refl

signed-smallest : signed_value 32768 ≡ negsuc 32767
signed-smallest = refl

signed-minus_one : signed_value 65535 ≡ negsuc 0
signed-minus_one = refl
