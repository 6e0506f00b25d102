-- The signature of MP3 without ID3 (WHATWG MIME Sniffing 6.2.3): two headers of MPEG audio frames of
-- layer 3, the second where the first one's frame ends.
use Rattle.std.specs.Prelude.{◌≡◌, ◌≢◌, ℕ, ◌+◌, ◌-◌, ◌*◌, ◌/◌, ◌≤◌, Bool, not, ◌&&◌, ◌==◌, nat_le, List, [], ◌∷◌, length, slice_index, bit_and, if◌then◌else◌}

-- the first byte of a header, and the bits of the second that are set in each header
abbrev pub sync_byte : ℕ
sync_byte = 0xFF

abbrev pub sync_bits : ℕ
sync_bits = 0xE0

-- the version bits of the second byte. What is neither version 1 nor 2 nor reserved is version 2.5
abbrev pub version_of : ℕ → ℕ
version_of second = bit_and second 0x18

abbrev pub version_1 : ℕ
version_1 = 0x18

abbrev pub version_2 : ℕ
version_2 = 0x10

abbrev pub reserved_version : ℕ
reserved_version = 0x08

-- the layer bits of the second byte
abbrev pub layer_of : ℕ → ℕ
layer_of second = bit_and second 0x06

abbrev pub layer_3 : ℕ
layer_3 = 0x02

-- the index of the bit rate: the top four bits of the third byte
abbrev pub bit_rate_index : ℕ → ℕ
bit_rate_index third = third / 16

-- the index of the sample rate: the two bits below those
abbrev pub sample_rate_index : ℕ → ℕ
sample_rate_index third = bit_and third 0x0C / 4

-- one byte more, where the padding bit of the third byte is set
abbrev pub padding_of : ℕ → ℕ
padding_of third = bit_and third 0x02 / 2

-- kilobits a second for the indices 1 to 14
unfoldable pub version_1_bit_rates : List ℕ
version_1_bit_rates =
    32 ∷ 40 ∷ 48 ∷ 56 ∷ 64 ∷ 80 ∷ 96 ∷ 112 ∷ 128 ∷ 160 ∷ 192 ∷ 224 ∷ 256 ∷ 320 ∷ []

unfoldable pub version_2_bit_rates : List ℕ
version_2_bit_rates =
    8 ∷ 16 ∷ 24 ∷ 32 ∷ 40 ∷ 48 ∷ 56 ∷ 64 ∷ 80 ∷ 96 ∷ 112 ∷ 128 ∷ 144 ∷ 160 ∷ []

abbrev pub bit_rate : ℕ → ℕ → ℕ
bit_rate version index =
    slice_index (if version == version_1 then version_1_bit_rates else version_2_bit_rates) (index - 1)

-- samples a second for the indices 0 to 2
unfoldable pub version_1_sample_rates : List ℕ
version_1_sample_rates = 44100 ∷ 48000 ∷ 32000 ∷ []

unfoldable pub version_2_sample_rates : List ℕ
version_2_sample_rates = 22050 ∷ 24000 ∷ 16000 ∷ []

unfoldable pub version_2_5_sample_rates : List ℕ
version_2_5_sample_rates = 11025 ∷ 12000 ∷ 8000 ∷ []

abbrev pub sample_rate : ℕ → ℕ → ℕ
sample_rate version index =
    slice_index (if version == version_1 then version_1_sample_rates
    else if version == version_2 then version_2_sample_rates else version_2_5_sample_rates) index

-- an eighth of a frame's samples, 1,152 in version 1 and else 576, times the bits of a kilobit
abbrev pub scale_of : ℕ → ℕ
scale_of version = if version == version_1 then 144000 else 72000

-- the bytes of the frame whose header has this second and third byte
abbrev pub frame_size : ℕ → ℕ → ℕ
frame_size second third =
    scale_of (version_of second) * bit_rate (version_of second) (bit_rate_index third)
    / sample_rate (version_of second) (sample_rate_index third)
    + padding_of third

-- a header of layer 3 has this second and third byte
pub record IsLayer3 (second third : ℕ) : Type 0 where
  pub sync : bit_and second sync_bits ≡ sync_bits
  pub version : version_of second ≢ reserved_version
  pub layer : layer_of second ≡ layer_3
  pub bit_rate_from : 1 ≤ bit_rate_index third
  pub bit_rate_to : bit_rate_index third ≤ 14
  pub sample_rate_to : sample_rate_index third ≤ 2

-- a header of layer 3 stands at the offset, four bytes inside the window
pub record IsFrameHeader (offset : ℕ) (window : List ℕ) : Type 0 where
  pub inside : offset + 4 ≤ length window
  pub sync : slice_index window offset ≡ sync_byte
  pub layer_3 : IsLayer3 (slice_index window (offset + 1)) (slice_index window (offset + 2))

-- the size of the frame at the window's beginning
abbrev pub first_frame_size : List ℕ → ℕ
first_frame_size window = frame_size (slice_index window 1) (slice_index window 2)

-- the window matches the signature
pub record IsMpegFrame (window : List ℕ) : Type 0 where
  pub first : IsFrameHeader 0 window
  pub second : IsFrameHeader (first_frame_size window) window

-- `IsLayer3` as a test
abbrev pub is_layer_3 : ℕ → ℕ → Bool
is_layer_3 second third =
    bit_and second sync_bits == sync_bits
    && (not (version_of second == reserved_version)
    && (layer_of second == layer_3
    && (nat_le 1 (bit_rate_index third)
    && (nat_le (bit_rate_index third) 14
    && nat_le (sample_rate_index third) 2))))

-- `IsFrameHeader` as a test
abbrev pub is_frame_header : ℕ → List ℕ → Bool
is_frame_header offset window =
    nat_le (offset + 4) (length window)
    && (slice_index window offset == sync_byte
    && is_layer_3 (slice_index window (offset + 1)) (slice_index window (offset + 2)))

-- `IsMpegFrame` as a test
unfoldable pub is_mpeg_window : List ℕ → Bool
is_mpeg_window window = is_frame_header 0 window && is_frame_header (first_frame_size window) window
