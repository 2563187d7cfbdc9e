pub mod SegmentLaws
pub mod ValidSlotLaws
pub mod SoundParts
pub mod SoundRights
pub mod SoundLaws
pub mod FromSound
