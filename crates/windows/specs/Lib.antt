pub mod Setting
pub mod SettingLaws
