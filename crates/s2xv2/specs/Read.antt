-- What a body reads as: its parts, its record, and the answer. A part that is not there ends where the part before it
-- ends, so that it is never the first that is missing. Assumes nothing.
-- `Present`          which parts are there
-- `present_from`     those that the values of a core ask for
-- `present_in`       those that the core of a body asks for
-- `stream_end`       where the stream id ends
-- `scrambling_end`   where the scrambling index ends
-- `timeslice_end`    where the timeslice ends
-- `header_end`       where the bond header ends
-- `first_id_end`     where the first id ends
-- `has_second`       a bond header asks for a second id
-- `bond_size`        how many bytes the bonds take
-- `bond_end`         where the bonds end
-- `block_end`        where the superframe block would end without a plan id
-- `has_plan`         a superframe block asks for a plan id
-- `plan_size`        how far the plan id goes from the start of the block
-- `plan_end`         where the plan id ends
-- `superframe_size`  how many bytes the superframe block takes
-- `superframe_end`   where the superframe block ends
-- `body_size`        where the last part ends
-- `needs`            the parts with the ends that the body has to reach
-- `least_total`      how long the whole of a body has to be, by what is there of it
-- `short_of`         answer 1 of a body that ends inside a part
-- `superframe_from`  a superframe block made of its values
-- `plan_at`          the plan id of a block at a byte
-- `superframe_at`    the superframe block at a byte
-- `stream_id_at`     the stream id at a byte
-- `timeslice_at`     the timeslice at a byte
-- `reserved6_at`     what is reserved before the scrambling index
-- `index_at`         the scrambling index
-- `reserved7_at`     what is reserved in the bond header
-- `count_if`         the bonds' count
-- `first_id_at`      the first id
-- `second_id_at`     the second id
-- `record_from`      a record made of all of these
-- `record_at`        the record of a body whose parts start as told
-- `record_of`        the record of a body whose parts stand one behind the other
-- `record_in`        the record that a body holds
-- `read_told`        the answer in numbers
-- `Reading`          an answer in numbers, with the record shown
-- `read_of`          that of the reader for a body
-- `tail_of`          the tail of a body
use Rattle.std.specs.Prelude.{ℕ, ◌+◌, List, [], ◌∷◌, ◌++◌, Bool, length, drop, eqb, ltb}
use Rattle.answers.specs.Short.{Need, ◌to◌, short_told}
use Rattle.wire.specs.Flags.{when, is_one, and, only}
use Rattle.wire.specs.Widths.{size, cut, give, read}
use Rattle.s2xv2.specs.Table144b as T
use Rattle.s2xv2.specs.Table144c.{mode_of, has_selector, has_timeslice, has_superframe}
use Rattle.s2xv2.specs.Default.{default_record}
use Rattle.answers.specs.Answer.{numbers, told, saturated, number_of}
use Rattle.answers.specs.declared.answer.Refusal.{Refusal}
use Rattle.answers.specs.declared.answer.Refusal.TheVariants as R
use Rattle.s2xv2.specs.declared.record.S2Xv2SatelliteDeliverySystem.{S2Xv2SatelliteDeliverySystem}
use Rattle.s2xv2.specs.declared.superframe.S2Xv2Superframe.{S2Xv2Superframe}
use Rattle.std.specs.Prelude.{Option}
use Rattle.std.specs.Bool.{then_some}
use Rattle.std.specs.Prelude.{Ok}

-- ---- which parts are there

-- those that are not always there
pub record Present : Type 0 where
  pub stream : Bool
  pub scrambling : Bool
  pub timeslice : Bool
  pub bond : Bool
  pub superframe : Bool

-- as the values of the core say
abbrev pub present_from : List ℕ → Present
present_from vs =
    give T.core (λ _ mode flag _ _ _ _ bond _ top _ _ _ _ _. record {
      stream = is_one flag;
      scrambling = and (has_selector (mode_of mode)) (is_one top);
      timeslice = has_timeslice (mode_of mode);
      bond = eqb bond 1;
      superframe = has_superframe (mode_of mode);
    }) vs

unfoldable pub present_in : List ℕ → Present
present_in s = present_from (cut s 0 T.core)

-- ---- where each part ends

abbrev pub stream_end : Present → ℕ
stream_end k = size T.core + only k.stream (size T.stream_id)

abbrev pub scrambling_end : Present → ℕ
scrambling_end k = stream_end k + only k.scrambling (size T.scrambling)

abbrev pub timeslice_end : Present → ℕ
timeslice_end k = scrambling_end k + only k.timeslice (size T.timeslice)

abbrev pub header_end : Present → ℕ
header_end k = timeslice_end k + only k.bond (size T.bond_header)

abbrev pub first_id_end : Present → ℕ
first_id_end k = timeslice_end k + only k.bond (size (T.bond_header ++ T.bond_id))

-- num_channel_bonds_minus_one is 1: there is a second id
abbrev pub has_second : List ℕ → ℕ → Bool
has_second s p = read T.bond_header s p (λ _ less. is_one less)

abbrev pub bond_size : Bool → ℕ
bond_size second = when second (size (T.bond_header ++ T.bond_id ++ T.bond_id)) (size (T.bond_header ++ T.bond_id))

abbrev pub bond_end : List ℕ → Present → ℕ
bond_end s k = timeslice_end k + only k.bond (bond_size (has_second s (timeslice_end k)))

-- the block as long as it is without a plan id
abbrev pub block_end : List ℕ → Present → ℕ
block_end s k = bond_end s k + only k.superframe (size (T.superframe ++ T.last_byte))

-- beam_hopping_time_plan_selector is set: there is a plan id
abbrev pub has_plan : List ℕ → ℕ → Bool
has_plan s p = read T.superframe s p (λ _ _ hopping _ _ _ _. is_one hopping)

-- how far the plan id goes; without one, as far as the block
abbrev pub plan_size : Bool → ℕ
plan_size plan = when plan (size (T.superframe ++ T.plan)) (size (T.superframe ++ T.last_byte))

abbrev pub plan_end : List ℕ → Present → ℕ
plan_end s k = bond_end s k + only k.superframe (plan_size (has_plan s (bond_end s k)))

abbrev pub superframe_size : Bool → ℕ
superframe_size plan = when plan (size (T.superframe ++ T.plan ++ T.last_byte)) (size (T.superframe ++ T.last_byte))

abbrev pub superframe_end : List ℕ → Present → ℕ
superframe_end s k = bond_end s k + only k.superframe (superframe_size (has_plan s (bond_end s k)))

-- THE SIZE that mode, flags and bond count dictate
unfoldable pub body_size : List ℕ → ℕ
body_size s = superframe_end s (present_in s)

-- ---- what is missing

-- the parts in wire order
abbrev pub needs : List ℕ → Present → List Need
needs s k =
    1 to size T.core
    ∷ 2 to stream_end k
    ∷ 3 to scrambling_end k
    ∷ 4 to timeslice_end k
    ∷ 5 to header_end k
    ∷ 6 to first_id_end k
    ∷ 6 to bond_end s k
    ∷ 7 to block_end s k
    ∷ 8 to plan_end s k
    ∷ 9 to superframe_end s k
    ∷ []

-- THE LEAST TOTAL: the core, until it is there; then all that the core asks for, where a bond header that is not there counts as one id, and a
-- superframe block as one without a plan id, until that much of it is there
unfoldable pub least_total : List ℕ → ℕ
least_total s =
    when (ltb (length s) (size T.core)) (size T.core)
    (when (ltb (length s) (block_end s (present_in s))) (block_end s (present_in s)) (body_size s))

abbrev pub short_of : List ℕ → Need → Refusal
short_of s n = R.Short n.place n.need (length s) (least_total s)

-- ---- the record

-- the superframe block of its first fields, the plan id, and the fields of its last byte
abbrev pub superframe_from : List ℕ → Option ℕ → List ℕ → S2Xv2Superframe
superframe_from vs plan ws =
    give T.superframe (λ sosf selector hopping reserved reference nibble payload. give T.last_byte (λ pilots pli. record {
      sosf_wh_sequence_number = sosf;
      sffi_selector = is_one selector;
      beam_hopping_time_plan_selector = is_one hopping;
      reserved_zero_future_use_2 = reserved;
      reference_scrambling_index = reference;
      sffi = then_some (is_one selector) nibble;
      reserved_zero_future_use_4 = when (is_one selector) 0 nibble;
      payload_scrambling_index = payload;
      beamhopping_time_plan_id = plan;
      superframe_pilots_wh_sequence_number = pilots;
      postamble_pli = pli;
    }) ws) vs

-- the block that starts with byte p, with or without a plan id
abbrev pub plan_at : List ℕ → ℕ → Bool → Option ℕ
plan_at s p plan = then_some plan (read T.plan s (p + size T.superframe) (λ id. id))

unfoldable pub superframe_at : List ℕ → ℕ → Bool → S2Xv2Superframe
superframe_at s p plan =
    superframe_from (cut s p T.superframe) (plan_at s p plan)
    (cut s (p + when plan (size (T.superframe ++ T.plan)) (size T.superframe)) T.last_byte)

-- the other parts, that start with byte p if they are there
abbrev pub stream_id_at : List ℕ → ℕ → Bool → Option ℕ
stream_id_at s p there = then_some there (read T.stream_id s p (λ v. v))

abbrev pub timeslice_at : List ℕ → ℕ → Bool → Option ℕ
timeslice_at s p there = then_some there (read T.timeslice s p (λ v. v))

abbrev pub reserved6_at : List ℕ → ℕ → Bool → ℕ
reserved6_at s p there = only there (read T.scrambling s p (λ reserved _. reserved))

abbrev pub index_at : List ℕ → ℕ → Bool → Option ℕ
index_at s p there = then_some there (read T.scrambling s p (λ _ index. index))

abbrev pub reserved7_at : List ℕ → ℕ → Bool → ℕ
reserved7_at s p there = only there (read T.bond_header s p (λ reserved _. reserved))

abbrev pub count_if : Bool → Bool → ℕ
count_if there second = only there (when second 2 1)

abbrev pub first_id_at : List ℕ → ℕ → Bool → ℕ
first_id_at s p there = only there (read T.bond_id s (p + size T.bond_header) (λ id. id))

abbrev pub second_id_at : List ℕ → ℕ → Bool → Bool → ℕ
second_id_at s p there second = only (and there second) (read T.bond_id s (p + size (T.bond_header ++ T.bond_id)) (λ id. id))

-- the record of the core's values and of what the other parts hold
abbrev pub record_from : List ℕ → Option ℕ → ℕ → Option ℕ → Option ℕ → ℕ → ℕ → ℕ → ℕ → Option S2Xv2Superframe → S2Xv2SatelliteDeliverySystem
record_from vs stream reserved6 index timeslice reserved7 count first second superframe =
    give T.core (λ id mode flag roll_off reserved2 reference version bond polarization top tsgs profiles satellite frequency rate. record {
      delivery_system_id = id;
      s2xv2_mode = mode_of mode;
      multiple_input_stream_flag = is_one flag;
      roll_off = roll_off;
      reserved_zero_future_use_2 = reserved2;
      ncr_reference = is_one reference;
      ncr_version = is_one version;
      channel_bond = bond;
      polarization = polarization;
      scrambling_sequence_selector = then_some (has_selector (mode_of mode)) (is_one top);
      reserved_zero_future_use_1 = when (has_selector (mode_of mode)) 0 top;
      ts_gs_s2x_mode = tsgs;
      receiver_profiles = profiles;
      satellite_id = satellite;
      frequency = frequency;
      symbol_rate = rate;
      input_stream_identifier = stream;
      reserved_zero_future_use_6 = reserved6;
      scrambling_sequence_index = index;
      timeslice_number = timeslice;
      reserved_zero_future_use_7 = reserved7;
      secondary_delivery_system_ids = first ∷ second ∷ [];
      num_channel_bonds = count;
      superframe = superframe;
    }) vs

-- of the parts that are there, with the byte that each but the core and the stream id starts at
unfoldable pub record_at : List ℕ → Present → ℕ → ℕ → ℕ → ℕ → S2Xv2SatelliteDeliverySystem
record_at s k scrambling timeslice bond superframe =
    record_from (cut s 0 T.core)
    (stream_id_at s (size T.core) k.stream)
    (reserved6_at s scrambling k.scrambling) (index_at s scrambling k.scrambling)
    (timeslice_at s timeslice k.timeslice)
    (reserved7_at s bond k.bond) (count_if k.bond (has_second s bond))
    (first_id_at s bond k.bond) (second_id_at s bond k.bond (has_second s bond))
    (then_some k.superframe (superframe_at s superframe (has_plan s superframe)))

-- each part starts where the one before it ends
abbrev pub record_of : List ℕ → Present → S2Xv2SatelliteDeliverySystem
record_of s k = record_at s k (stream_end k) (scrambling_end k) (timeslice_end k) (bond_end s k)

abbrev pub record_in : List ℕ → S2Xv2SatelliteDeliverySystem
record_in s = record_of s (present_in s)

-- ---- the answer

-- 2, then 1 in wire order, then accepted: the tail starts where the last part ends
unfoldable pub read_told : List ℕ → List ℕ
read_told s =
    when (ltb 4096 (length s)) (numbers (R.Long (saturated (length s))))
    (short_told (short_of s) (length s) (needs s (present_in s)) (told (Ok (body_size s))))

-- what the reader answers: the numbers told, and the record shown
pub record Reading : Type 0 where
  pub told : List ℕ
  pub body : S2Xv2SatelliteDeliverySystem

abbrev pub read_of : List ℕ → Reading
read_of s = record { told = read_told s; body = when (eqb (number_of (read_told s)) 0) (record_in s) default_record }

-- what is left behind the last part of an accepted body; nothing of a refused one
abbrev pub tail_of : List ℕ → List ℕ
tail_of s = when (eqb (number_of (read_told s)) 0) (drop (body_size s) s) []
